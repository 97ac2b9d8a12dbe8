-- The net that a text gives, or its refusal with its line. Line 1 is the header, so input k (from 0) is line 2 + k, output k line 2 + I + k,
-- and gate k line 2 + I + O + k.
-- Assumes nothing.
use Rattle.std.specs.Prelude.{ℕ, zero, suc, ◌+◌, ◌*◌, ◌/◌, ◌%◌, Bool, ◌&&◌, ◌||◌, not, if◌then◌else◌, List, [], ◌∷◌, ◌++◌, map, eqb, leb, ltb, length}
use Rattle.aiger.specs.Form.{Read, read, fault, Reader, number, line, Gate, gate, Header, header}
use Rattle.aiger.specs.declared.refusal.Refusal.{Refusal}
use Rattle.aiger.specs.declared.refusal.Refusal.TheVariants.{TooLong, Form, Limits, Literal, Order}

-- what is made of a part of the text with what is left of the text, or the refusal
pub data Got (A : Type 0) : Type 0 where
  got : A → List ℕ → Got A
  refused : Refusal → Got A

abbrev pub Part : Type 0 → Type 0
Part A = List ℕ → Got A

abbrev pub go_on : {A B : Type 0} → Got A → (A → Part B) → Got B
go_on (got a rest) f = f a rest
go_on (refused w) f = refused w

infixl 20 ◌>>=◌
abbrev pub ◌>>=◌ : {A B : Type 0} → Part A → (A → Part B) → Part B
◌>>=◌ r f text = go_on (r text) f

abbrev pub at_line : {A : Type 0} → ℕ → Read A → Got A
at_line n (read a rest) = got a rest
at_line n (fault w) = refused (Form w n)

-- line n, that r reads: 10 where it breaks the form
abbrev pub on_line : {A : Type 0} → ℕ → Reader A → Part A
on_line n r text = at_line n (line r text)

-- a refusal unless the test holds
abbrev pub check : Bool → Refusal → Part (Unit {0})
check t w text = if t then got tt text else refused w

-- variable v is defined by one of the literals ls; the constants' variable 0 needs no definition
unfoldable pub defined : List ℕ → ℕ → Bool
defined [] v = eqb v 0
defined (l ∷ ls) v = eqb (l / 2) v || defined ls v

-- "Inputs and gate lefts are even, at least 2, at most 2M+1, each defined once."
abbrev pub fresh : ℕ → List ℕ → ℕ → Bool
fresh M ls l = eqb (l % 2) 0 && leb 2 l && leb l (2 * M + 1) && not (defined ls (l / 2))

-- "Input line: 10, 12." k input lines, after those of the literals ls
unfoldable pub input_lines : ℕ → ℕ → List ℕ → Part (List ℕ)
input_lines M zero ls = got ls
input_lines M (suc k) ls = do
  l ← on_line (2 + length ls) number
  ok ← check (fresh M ls l) (Literal (2 + length ls))
  input_lines M k (ls ++ l ∷ [])

-- "Output line: 10." k output lines, after those of the literals ls; the first is line n
unfoldable pub output_lines : ℕ → ℕ → List ℕ → Part (List ℕ)
output_lines n zero ls = got ls
output_lines n (suc k) ls = do
  l ← on_line (n + length ls) number
  output_lines n k (ls ++ l ∷ [])

-- "Gates come in ascending order of left, and each right literal's variable is below the left's variable." p is the left before
abbrev pub in_order : ℕ → Gate → Bool
in_order p g = ltb p g.left && ltb (g.right0 / 2) (g.left / 2) && ltb (g.right1 / 2) (g.left / 2)

-- both rights' variables are defined by the inputs and the gates before
abbrev pub rights_defined : List ℕ → Gate → Bool
rights_defined ls g = defined ls (g.right0 / 2) && defined ls (g.right1 / 2)

abbrev pub lefts : List Gate → List ℕ
lefts = map (λ g. g.left)

-- "Gate line: 10, faults of the left (12), order (13), an undefined right (12)."
-- k gate lines, after the gates gs, whose last left is p; ls are the inputs, and the first line is line n
unfoldable pub gate_lines : ℕ → ℕ → List ℕ → ℕ → ℕ → List Gate → Part (List Gate)
gate_lines M n ls p zero gs = got gs
gate_lines M n ls p (suc k) gs = do
  g ← on_line (n + length gs) gate
  ok ← check (fresh M (ls ++ lefts gs) g.left) (Literal (n + length gs))
  up ← check (in_order p g) (Order (n + length gs))
  by ← check (rights_defined (ls ++ lefts gs) g) (Literal (n + length gs))
  gate_lines M n ls g.left k (gs ++ g ∷ [])

-- an output may name o: in range and defined, as the constants 0 and 1 are
abbrev pub known : ℕ → List ℕ → ℕ → Bool
known M ls o = leb o (2 * M + 1) && defined ls (o / 2)

-- the line of an output, or none
pub data Unknown : Type 0 where
  at : ℕ → Unknown
  nowhere : Unknown

-- "After the last gate, output literals out of range or undefined (12)": the line of the first; the first output stands on line n
unfoldable pub unknown_output : ℕ → List ℕ → ℕ → List ℕ → Unknown
unknown_output M ls n [] = nowhere
unknown_output M ls n (o ∷ os) = if known M ls o then unknown_output M ls (n + 1) os else at n

abbrev pub all_known : Unknown → Part (Unit {0})
all_known nowhere = got tt
all_known (at n) = λ text. refused (Literal n)

-- 11: "M or O above 1,024, L not 0, or I + A above M"
abbrev pub limits : Header → Bool
limits h = leb h.M 1024 && leb h.O 1024 && eqb h.L 0 && leb (h.I + h.A) h.M

pub record Net : Type 0 where
  pub M : ℕ
  pub inputs : List ℕ
  pub outputs : List ℕ
  pub gates : List Gate

-- "Then I input literals, O output literals, one on a line, then A gates" "Bytes after the last gate line aren't read."
unfoldable pub body : Header → Part Net
body h = do
  is ← input_lines h.M h.I []
  os ← output_lines (h.I + 2) h.O []
  gs ← gate_lines h.M (h.I + h.O + 2) is 0 h.A []
  ok ← all_known (unknown_output h.M (is ++ lefts gs) (h.I + 2) os)
  got (record { M = h.M; inputs = is; outputs = os; gates = gs })

-- "The circuit call checks .. 9, the header (10, then 11), then line by line."
unfoldable pub circuit : Part Net
circuit text = (do
  short ← check (leb (length text) 32768) TooLong
  h ← on_line 1 header
  small ← check (limits h) Limits
  body h) text
