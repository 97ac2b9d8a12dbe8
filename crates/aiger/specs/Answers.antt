-- What the answers of the code stand for over the text s: a position is what is left of s there.
-- Assumes nothing.
use Rattle.std.specs.Prelude.{ℕ, List, length, map, take, drop, Result, Ok, Err}
use Rattle.aiger.specs.Form as form
use Rattle.aiger.specs.Form.{read, fault, Header}
use Rattle.aiger.specs.Net.{Got, got, refused, Net, circuit}
use Rattle.aiger.specs.declared.numbers.Fault.{Fault}
use Rattle.aiger.specs.declared.lines.Lit.{Lit}
use Rattle.aiger.specs.declared.lines.Gate.{Gate}
use Rattle.aiger.specs.declared.header.Sizes.{Sizes}
use Rattle.aiger.specs.declared.refusal.Refusal.{Refusal}
use Rattle.aiger.specs.declared.refusal.Refusal.TheVariants.{TooLong, Form, Limits, Literal, Order}

-- the paper's number of a refusal, from 'Numbered answers'
abbrev pub number_of_refusal : Refusal → ℕ
number_of_refusal TooLong = 9
number_of_refusal (Form w n) = 10
number_of_refusal Limits = 11
number_of_refusal (Literal n) = 12
number_of_refusal (Order n) = 13

-- what the text call answers: I and O, or the refusal's number
pub data Answer : Type 0 where
  Counted : ℕ → ℕ → Answer
  Refused : ℕ → Answer

abbrev pub answer_of : Got Net → Answer
answer_of (got net rest) = Counted (length net.inputs) (length net.outputs)
answer_of (refused w) = Refused (number_of_refusal w)

-- "A text call makes the same checks from 9 to the output literals, and returns I and O."
abbrev pub text_call : List ℕ → Answer
text_call text = answer_of (circuit text)

-- the answer that the code's counts or its refusal stand for
abbrev pub answer_of_text : Result (ℕ × ℕ) Refusal → Answer
answer_of_text (Ok counts) = Counted counts.0 counts.1
answer_of_text (Err w) = Refused (number_of_refusal w)

-- I and O of the net, or its refusal with the line
abbrev pub counts_of : Got Net → Result (ℕ × ℕ) Refusal
counts_of (got net rest) = Ok (length net.inputs, length net.outputs)
counts_of (refused w) = Err w

-- what a read found

abbrev pub step_of : List ℕ → Result ℕ Fault → form.Read (Unit {0})
step_of s (Ok p) = read tt (drop p s)
step_of s (Err w) = fault w

abbrev pub number_of : List ℕ → Result (ℕ × ℕ) Fault → form.Read ℕ
number_of s (Ok r) = read r.0 (drop r.1 s)
number_of s (Err w) = fault w

abbrev pub lits_of : Gate → form.Gate
lits_of g = record { left = g.left.0; right0 = g.right0.0; right1 = g.right1.0 }

abbrev pub gate_of : List ℕ → Result (Gate × ℕ) Fault → form.Read form.Gate
gate_of s (Ok r) = read (lits_of r.0) (drop r.1 s)
gate_of s (Err w) = fault w

abbrev pub sizes_of : Sizes → Header
sizes_of h = record { M = h.vars; I = h.inputs; L = h.latches; O = h.outputs; A = h.gates }

abbrev pub header_of : List ℕ → Result (Sizes × ℕ) Fault → form.Read Header
header_of s (Ok r) = read (sizes_of r.0) (drop r.1 s)
header_of s (Err w) = fault w

-- literals and gates, as the paper has them
abbrev pub literals_in : List Lit → List ℕ
literals_in = map (λ l. l.0)

abbrev pub gates_in : List Gate → List form.Gate
gates_in = map lits_of

-- the net in three arrays, by the header's numbers
abbrev pub net_in : Sizes → List Lit → List Lit → List Gate → Net
net_in h is os gs = record {
  M = h.vars;
  inputs = literals_in (take h.inputs is);
  outputs = literals_in (take h.outputs os);
  gates = gates_in (take h.gates gs);
}
