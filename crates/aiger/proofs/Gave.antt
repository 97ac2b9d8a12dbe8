-- What a read, a net or a loop gave or begins with, said of its definition. The check finds these by itself where the code needs them. Assumes nothing.
use Prim.Native.Nat.{ℕ, ◌+◌, ◌-◌, ◌/◌, ◌≤◌}
use mathlib.Core.Path.{◌≡◌, refl, sym, ap, ◌∙◌}
use mathlib.Core.Bool.{Bool, true}
use mathlib.Core.List.{List, []}
use native.Mathlib.Omega.{arith}
use lib.Dec.{leb}
use lib.ListN.{length, drop}
use borrow.Author.Tests.{leb-true}
use Rattle.std.proofs.Common.{Ok, Err}
use Rattle.std.specs.Prelude.{Result}
use Rattle.aiger.specs.Form as form
use Rattle.aiger.specs.Form.{read, digit, Gate, Header}
use Rattle.aiger.specs.Net as net
use Rattle.aiger.specs.Net.{Got, in_order, limits}
use Rattle.aiger.specs.Answers.{Counted, Refused, answer_of, number_of_refusal, step_of, number_of, gate_of, header_of, lits_of, sizes_of}
use Rattle.aiger.specs.Circuit.{net_of}
use Rattle.aiger.specs.Marked.{Marks}
use Rattle.aiger.specs.declared.numbers.Fault.{Fault}
use Rattle.aiger.specs.declared.lines.Gate as lits
use Rattle.aiger.specs.declared.lines.Lit.{Lit}
use Rattle.aiger.specs.declared.header.Sizes.{Sizes}
use Rattle.aiger.specs.declared.net.Net.{Net}
use Rattle.aiger.specs.declared.refusal.Refusal.{Refusal}
use Rattle.aiger.proofs.Bools.{split_and}
use Rattle.aiger.proofs.GateLines.{rights_low}
use Rattle.aiger.proofs.KnownOutputs.{Passed}
use Rattle.aiger.proofs.LiteralLines.{InputsInv, OutputsInv, length_filled}
use Rattle.aiger.proofs.WholeNet.{within}

pub digit_range : (x : ℕ) → digit x ≡ true → (48 ≤ x) × (x ≤ 57)
digit_range x e = let p = split_and (leb 48 x) (leb x 57) e in (leb-true 48 x p.0, leb-true x 57 p.1)

-- reads

module _ (s : List ℕ) {r : Result ℕ Fault} {d : form.Read (Unit {0})} (e : step_of s r ≡ d) where
  pub stepped_on : {p : ℕ} → r ≡ Ok p → d ≡ read tt (drop p s)
  stepped_on t = sym e ∙ ap (step_of s) t

module _ (s : List ℕ) {r : Result (ℕ × ℕ) Fault} {d : form.Read ℕ} (e : number_of s r ≡ d) where
  pub number_read : {n p : ℕ} → r ≡ Ok (n, p) → d ≡ read n (drop p s)
  number_read t = sym e ∙ ap (number_of s) t

module _ (s : List ℕ) {r : Result (Sizes × ℕ) Fault} {d : form.Read Header} (e : header_of s r ≡ d) where
  pub header_read : {h : Sizes} {p : ℕ} → r ≡ Ok (h, p) → d ≡ read (sizes_of h) (drop p s)
  header_read t = sym e ∙ ap (header_of s) t

module _ (s : List ℕ) {r : Result (lits.Gate × ℕ) Fault} {d : form.Read Gate} (e : gate_of s r ≡ d) where
  pub gate_read : {g : lits.Gate} {p : ℕ} → r ≡ Ok (g, p) → d ≡ read (lits_of g) (drop p s)
  gate_read t = sym e ∙ ap (gate_of s) t

-- what the loops begin with

pub rights_asked : (p : ℕ) (g : Gate) (marks : List Bool) {M : ℕ} → in_order p g ≡ true → g.left / 2 ≤ M → M ≤ 1024 → length marks ≡ 1025
    → (length marks ≡ 1025) × ((g.right0 / 2 ≤ 1024) × (g.right1 / 2 ≤ 1024))
rights_asked p g marks e b m l = (l, rights_low p g e b m)

pub passed_start : {M n : ℕ} {outs ls : List ℕ} → Passed M n outs 0 ls
passed_start {n = n} = record { rest = let z : n + 0 ≡ n = omega arith in rw z }

pub inputs_start : {s : List ℕ} {from M c : ℕ} {ins : List Lit} {marks : List Bool} → Marks marks [] → InputsInv s from M c ins ins marks from 0
inputs_start {c = c} m = record { low = omega arith; same = refl; marked = m; rest = let z : c - 0 ≡ c = omega arith in rw z }

pub outputs_start : {s : List ℕ} {from n c : ℕ} {outs : List Lit} → OutputsInv s from n c outs outs from 0
outputs_start {c = c} = record { low = omega arith; same = refl; rest = let z : c - 0 ≡ c = omega arith in rw z }

-- what the lines after a header ask, of the arrays of 1,024 places and of the 1,025 marks too

module _ (h : Header) (small : limits h ≡ true) where
  pub body_outputs : (outs : List Lit) → 1024 ≤ length outs → (h.I + 2 ≤ 4096) × (h.O ≤ 1024) × (h.O ≤ length outs)
  body_outputs outs long = let w = within h small in (omega (arith, w.vars, w.sum), w.outs, omega (arith, w.outs, long))

  pub body_gates : (gates : List lits.Gate) (marks : List Bool) → 1024 ≤ length gates → length marks ≡ 1025
      → (h.M ≤ 1024) × (h.I + h.O + 2 ≤ 4096) × (h.A ≤ 1024) × (h.A ≤ length gates) × (length marks ≡ 1025)
  body_gates gates marks long l =
      let w = within h small in
      (w.vars, omega (arith, w.vars, w.sum, w.outs), omega (arith, w.vars, w.sum), omega (arith, w.vars, w.sum, long), l)

  pub body_known : (outs : List Lit) (marks : List Bool) → 1024 ≤ length outs → length marks ≡ 1025
      → (h.M ≤ 1024) × (h.I ≤ 1024) × (h.O ≤ 1024) × (h.O ≤ length outs) × (length marks ≡ 1025)
  body_known outs marks long l = let w = within h small in (w.vars, omega (arith, w.vars, w.sum), w.outs, omega (arith, w.outs, long), l)

-- the text call's answer

module _ (s : List ℕ) {r : Result (Net × ℕ) Refusal} {d : Got net.Net} (e : net_of s r ≡ d) where
  pub answer_counted : {n : Net} {p : ℕ} → r ≡ Ok (n, p) → 1024 ≤ length n.input_places.now → 1024 ≤ length n.output_places.now → Counted n.sizes.inputs n.sizes.outputs ≡ answer_of d
  answer_counted {n} {p} t i o =
      let w = within (sizes_of n.sizes) n.small in
      let q : answer_of (net_of s (Ok (n, p))) ≡ Counted n.sizes.inputs n.sizes.outputs = rw (
        length_filled (λ (l : Lit). l.0) n.input_places.now n.sizes.inputs (omega (arith, w.vars, w.sum)),
        length_filled (λ (l : Lit). l.0) n.output_places.now n.sizes.outputs (omega (arith, w.outs)),
      ) in
      sym q ∙ ap (λ (x : Result (Net × ℕ) Refusal). answer_of (net_of s x)) (sym t) ∙ ap answer_of e

  pub answer_refused : {w : Refusal} {v : ℕ} → r ≡ Err w → v ≡ number_of_refusal w → Refused v ≡ answer_of d
  answer_refused t k = rw k (ap (λ (x : Result (Net × ℕ) Refusal). answer_of (net_of s x)) (sym t) ∙ ap answer_of e)
