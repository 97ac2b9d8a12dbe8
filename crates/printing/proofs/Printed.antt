-- What is printed of an output is the text of what the circuit call leaves, whatever stands in the table that the call is lent; of a refused text it is the text call's number.
use Prim.Native.Nat.{ℕ}
use mathlib.Core.Path.{◌≡◌, refl, sym, ap, ◌∙◌}
use mathlib.Core.List.{List}
use Rattle.steps.specs.Table.{Slices}
use Rattle.table.specs.Lent.{room}
use Rattle.aiger.specs.Answers.{Answer, Counted, Refused, answer_of, text_call}
use Rattle.aiger.specs.Net.{Net, got, refused as unread, circuit}
use Rattle.aiger.specs.declared.refusal.Refusal.{Refusal}
use Rattle.verdicts.specs.Calls.{Left, end_with, circuit_call}
use Rattle.verdicts.specs.Verdicts.{Verdict, never, can, room_out, verdict_of}
use Rattle.verdicts.proofs.Outcomes.{Passed, call_passes}
use Rattle.printing.specs.Text.{printed, refused}
use Rattle.printing.specs.Inner.{Prints, PrintsRefusal}

same_text : (v : Verdict) (s t : Slices) (p : List ℕ) (o : ℕ) → printed (end_with v s p) o ≡ printed (end_with v t p) o
same_text (never R) s t p o = refl
same_text (can R q) s t p o = refl
same_text room_out s t p o = refl

-- s₀ is any table of the size of s
pub printed_verdict : {net : Net} {s : Slices} {o : ℕ} {p line : List ℕ} → Prints net s o p line
    → (text rest : List ℕ) → circuit text ≡ got net rest → (s₀ : Slices) → room s₀ ≡ room s → Passed net s₀ o p
    → line ≡ printed (circuit_call text s₀ o p) o
printed_verdict {net} {s} {o} {p} prints text rest reads s₀ size passed =
    prints.text ∙ same_text (verdict_of net (room s) o) s s₀ p o
    ∙ ap (λ (n : ℕ). printed (end_with (verdict_of net n o) s₀ p) o) (sym size)
    ∙ ap (λ (call : Left). printed call o) (sym (call_passes text net rest reads s₀ o p passed))

abbrev number : Answer → ℕ
number (Counted i o) = 0
number (Refused n) = n

-- of a refused text it is the number that the text call answers
pub printed_refusal : {why : Refusal} {line : List ℕ} → PrintsRefusal why line
    → (text : List ℕ) → circuit text ≡ unread why → (n : ℕ) → text_call text ≡ Refused n → line ≡ refused n
printed_refusal prints text reads n answer = prints.text ∙ ap refused (ap number (sym (ap answer_of reads) ∙ answer))
