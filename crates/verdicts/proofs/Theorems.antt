-- What the verdicts of the circuit call mean: the theorems that a reader will look for.
use Prim.Native.Nat.{ℕ, ◌<◌, ◌≤◌}
use mathlib.Core.Path.{◌≡◌, refl, sym, ap, subst, ◌∙◌}
use mathlib.Core.Bool.{Bool, true, false}
use mathlib.Core.List.{List}
use native.Mathlib.Omega.{arith}
use lib.Dec.{eqb, ltb}
use lib.ListN.{length}
use Rattle.steps.specs.Rows.{Rows}
use Rattle.steps.specs.One.{one}
use Rattle.steps.specs.Room.{full}
use Rattle.steps.specs.Table.{Slices, rows_of}
use Rattle.table.specs.Lent.{room}
use Rattle.table.specs.Calls.{unless◌then◌else◌, laid, cleared}
use Rattle.aiger.specs.Net.{Got, got, refused, Net, circuit}
use Rattle.aiger.specs.Accepted.{Accepted}
use Rattle.aiger.proofs.Accepted.{accepted}
use Rattle.verdicts.specs.Calls.{Answer, verdict_0, verdict_1, verdict_2, refusal, rows_made, Left, left, refuse, lengths_fine, end_with, judge_read, circuit_call}
use Rattle.verdicts.specs.Patterns.{pattern_of, bytes, bits, output_value, NotGreater}
pub use Rattle.verdicts.specs.StandsFor.{Witness}
use Rattle.verdicts.specs.Verdicts.{Verdict, never, can, room_out, output_rows, rows_needed, verdict_of}
use Rattle.verdicts.proofs.Outcomes.{call_lengths, call_read, Passed, call_passes, kind, passed, Case, zero_found, one_found, no_room, case, laid_rows}
use Rattle.verdicts.proofs.StandsFor.{never_one, least_one}
use Rattle.verdicts.proofs.Stepwise.{output_ending, runs_out, only_then}

-- two calls that give the same verdict, count and rows, and the same pattern where one is written
pub record Same (l l' : Left) : Type 0 where
  pub answer : l'.answer ≡ l.answer
  pub pattern : (n : ℕ) → l.answer ≡ verdict_1 n → l'.pattern ≡ l.pattern
  pub rows : rows_of l'.table (rows_made l.answer) ≡ rows_of l.table (rows_made l.answer)

-- a verdict 0 or 1
pub data Settled : Answer → Type 0 where
  at_0 : {n : ℕ} → Settled (verdict_0 n)
  at_1 : {n : ℕ} → Settled (verdict_1 n)

-- the ways in which a call on an accepted text ends

settled_kind : {a : Answer} → Settled a → kind a < 2
settled_kind at_0 = omega arith
settled_kind at_1 = omega arith

settled_passes : {a : Answer} → Settled a → (w : ℕ) → a ≡ refusal w → ⊥
settled_passes y w q = omega (arith, settled_kind y, ap kind q)

module _ (text : List ℕ) (net : Net) (rest : List ℕ) (reads : circuit text ≡ got net rest) (s : Slices) (o : ℕ) (p : List ℕ) where
  abbrev call : Left
  call = circuit_call text s o p

  abbrev R : Rows
  R = (output_rows net o).rows

  abbrev k : ℕ
  k = (output_rows net o).num

  -- the call's end, by the rows that the steps need and the number that they answer
  data Told : Type 0 where
    told_0 : rows_needed net o ≤ room s → k ≡ 0 → call ≡ left (verdict_0 (rows_needed net o)) (laid R s) p → Told
    told_1 : rows_needed net o ≤ room s → (k ≡ 0 → ⊥) → call ≡ left (verdict_1 (rows_needed net o)) (laid R s) (bytes (pattern_of net (one R k))) → Told
    told_2 : room s < rows_needed net o → call ≡ left verdict_2 (cleared 0 s) p → Told

  told : Passed net s o p → Told
  told x = go (case net (room s) (output_rows net o))
    where
      ends : {v : Verdict} → verdict_of net (room s) o ≡ v → call ≡ end_with v s p
      ends e = call_passes text net rest reads s o p x ∙ ap (λ (v : Verdict). end_with v s p) e

      go : Case net (room s) (output_rows net o) → Told
      go (zero_found h z e) = told_0 h z (ends e)
      go (one_found h z e) = told_1 h z (ends e)
      go (no_room h e) = told_2 h (ends e)

  kind_of : {l : Left} → call ≡ l → kind call.answer ≡ kind l.answer
  kind_of c = ap (λ (l : Left). kind l.answer) c

  ok : Accepted net
  ok = accepted text net rest reads

  -- "verdict 0": for every input pattern the output is 0
  pub verdict_zero : (n : ℕ) → (circuit_call text s o p).answer ≡ verdict_0 n → (q : List Bool) → output_value net q o ≡ false
  verdict_zero n e q = go (told x)
    where
      x : Passed net s o p
      x = passed text net rest reads s o p (verdict_0 n) (settled_passes at_0) e

      go : Told → output_value net q o ≡ false
      go (told_0 h z c) = (never_one ok o x.there z).always_0 q
      go (told_1 h z c) = absurd (omega (arith, kind_of c, ap kind e))
      go (told_2 h c) = absurd (omega (arith, kind_of c, ap kind e))

  written : (n : ℕ) → call.answer ≡ verdict_1 n → (Passed net s o p) × ((k ≡ 0 → ⊥) × (call.pattern ≡ bytes (pattern_of net (one R k))))
  written n e = (x, go (told x))
    where
      x : Passed net s o p
      x = passed text net rest reads s o p (verdict_1 n) (settled_passes at_1) e

      go : Told → (k ≡ 0 → ⊥) × (call.pattern ≡ bytes (pattern_of net (one R k)))
      go (told_0 h z c) = absurd (omega (arith, kind_of c, ap kind e))
      go (told_1 h z c) = (z, ap (λ (l : Left). l.pattern) c)
      go (told_2 h c) = absurd (omega (arith, kind_of c, ap kind e))

  -- "Only verdict 1 writes the pattern, one byte for each input in file order": it makes the output 1
  pub verdict_one : (n : ℕ) → (circuit_call text s o p).answer ≡ verdict_1 n → Witness net o (circuit_call text s o p).pattern
  verdict_one n e = let w = written n e in subst (Witness net o) (sym w.1.1) (least_one ok o w.0.there w.1.0).witness

  -- "The least pattern reads the highest-numbered input variable first.": no pattern that makes the output 1 is less
  pub verdict_one_least : (n : ℕ) → (circuit_call text s o p).answer ≡ verdict_1 n → (q : List Bool) → length q ≡ length net.inputs → output_value net q o ≡ true
      → NotGreater net.inputs (bits (circuit_call text s o p).pattern) q
  verdict_one_least n e q long is_1 =
      let w = written n e in
      subst (λ (b : List ℕ). NotGreater net.inputs (bits b) q) (sym w.1.1) ((least_one ok o w.0.there w.1.0).least q long is_1)

  -- "verdict 2 (room ran out)": exactly where the written steps need more rows than are lent
  pub verdict_two_exactly : Passed net s o p
      → ((circuit_call text s o p).answer ≡ verdict_2 → room s < rows_needed net o) × (room s < rows_needed net o → (circuit_call text s o p).answer ≡ verdict_2)
  verdict_two_exactly x = go (told x)
    where
      go : Told → (call.answer ≡ verdict_2 → room s < rows_needed net o) × (room s < rows_needed net o → call.answer ≡ verdict_2)
      go (told_0 h z c) = (λ q. absurd (omega (arith, kind_of c, ap kind q)), λ g. absurd (omega arith))
      go (told_1 h z c) = (λ q. absurd (omega (arith, kind_of c, ap kind q)), λ g. absurd (omega arith))
      go (told_2 h c) = (λ q. h, λ g. ap (λ (l : Left). l.answer) c)

  -- "verdict 2 (room ran out)", of a call that is not refused
  pub verdict_two_unrefused : lengths_fine s ≡ true → o < length net.outputs → length p ≡ length net.inputs
      → ((circuit_call text s o p).answer ≡ verdict_2 → room s < rows_needed net o) × (room s < rows_needed net o → (circuit_call text s o p).answer ≡ verdict_2)
  verdict_two_unrefused fine there long = verdict_two_exactly (record { fine = fine; there = there; long = long })

  -- "Room has run out when a row must be appended and all R are in use.": of a call that is not refused, verdict 2 exactly where the steps, taken one by one, come to that
  pub verdict_two_stepwise : lengths_fine s ≡ true → o < length net.outputs → length p ≡ length net.inputs
      → ((circuit_call text s o p).answer ≡ verdict_2 → output_ending (room s) net o ≡ full) × (output_ending (room s) net o ≡ full → (circuit_call text s o p).answer ≡ verdict_2)
  verdict_two_stepwise fine there long =
      let x = verdict_two_unrefused fine there long in
      (λ q. runs_out (room s) net o (x.0 q), λ q. x.1 (only_then (room s) net o q))

  -- the count of rows made "is the length of the row list the written steps give", and those rows "stand from row 0 on"
  pub verdict_rows : Settled (circuit_call text s o p).answer
      → (rows_made (circuit_call text s o p).answer ≡ rows_needed net o) × (rows_of (circuit_call text s o p).table (rows_needed net o) ≡ (output_rows net o).rows)
  verdict_rows y = go (told (passed text net rest reads s o p call.answer (settled_passes y) refl))
    where
      go : Told → (rows_made call.answer ≡ rows_needed net o) × (rows_of call.table (rows_needed net o) ≡ R)
      go (told_0 h z c) = (ap (λ (l : Left). rows_made l.answer) c, ap (λ (l : Left). rows_of l.table (rows_needed net o)) c ∙ laid_rows R s)
      go (told_1 h z c) = (ap (λ (l : Left). rows_made l.answer) c, ap (λ (l : Left). rows_of l.table (rows_needed net o)) c ∙ laid_rows R s)
      go (told_2 h c) = absurd (omega (arith, kind_of c, settled_kind y))

-- two tables

-- the same verdict, in any tables
same_ends : (v : Verdict) (s s' : Slices) (p p' : List ℕ) → Same (end_with v s p) (end_with v s' p')
unfolding rows_of
same_ends (never R) s s' p p' = record { answer = refl; pattern = λ n q. absurd (omega (arith, ap kind q)); rows = laid_rows R s' ∙ sym (laid_rows R s) }
same_ends (can R b) s s' p p' = record { answer = refl; pattern = λ n q. refl; rows = laid_rows R s' ∙ sym (laid_rows R s) }
same_ends room_out s s' p p' = record { answer = refl; pattern = λ n q. absurd (omega (arith, ap kind q)); rows = refl }

same_refusal : (w : ℕ) (s s' : Slices) (p p' : List ℕ) → Same (refuse w s p) (refuse w s' p')
unfolding rows_of
same_refusal w s s' p p' = record { answer = refl; pattern = λ n q. absurd (omega (arith, ap kind q)); rows = refl }

same_unless : (b : Bool) (x y x' y' : Left) → Same x x' → Same y y' → Same (unless b then x else y) (unless b then x' else y')
same_unless true x y x' y' d e = e
same_unless false x y x' y' d e = d

module _ (text : List ℕ) (o : ℕ) (s s' : Slices) (p p' : List ℕ) (long : length p' ≡ length p) where
  -- once a table is large enough for verdict 0 or 1, every larger one up to 8,192 rows gives the same, whatever stood in either
  pub larger_table : lengths_fine s' ≡ true → room s ≤ room s' → Settled (circuit_call text s o p).answer → Same (circuit_call text s o p) (circuit_call text s' o p')
  larger_table fine h y = go (circuit text) refl
    where
      reading : (net : Net) (rest : List ℕ) → circuit text ≡ got net rest → Passed net s o p → Case net (room s) (output_rows net o) → Case net (room s') (output_rows net o) → Same (circuit_call text s o p) (circuit_call text s' o p')
      reading net rest e x c c' = same_verdict c c'
        where
          ends : {v : Verdict} → verdict_of net (room s) o ≡ v → circuit_call text s o p ≡ end_with v s p
          ends q = call_passes text net rest e s o p x ∙ ap (λ (v : Verdict). end_with v s p) q

          ends' : {v : Verdict} → verdict_of net (room s') o ≡ v → circuit_call text s' o p' ≡ end_with v s' p'
          ends' q = call_passes text net rest e s' o p' (record { fine = fine; there = x.there; long = long ∙ x.long }) ∙ ap (λ (v : Verdict). end_with v s' p') q

          both : (v : Verdict) → verdict_of net (room s) o ≡ v → verdict_of net (room s') o ≡ v → Same (circuit_call text s o p) (circuit_call text s' o p')
          both v q q' = rw (ends q, ends' q') (same_ends v s s' p p')

          same_verdict : Case net (room s) (output_rows net o) → Case net (room s') (output_rows net o) → Same (circuit_call text s o p) (circuit_call text s' o p')
          same_verdict (zero_found g z q) (zero_found g' z' q') = both _ q q'
          same_verdict (zero_found g z q) (one_found g' z' q') = absurd (z' z)
          same_verdict (zero_found g z q) (no_room g' q') = absurd (omega arith)
          same_verdict (one_found g z q) (zero_found g' z' q') = absurd (z z')
          same_verdict (one_found g z q) (one_found g' z' q') = both _ q q'
          same_verdict (one_found g z q) (no_room g' q') = absurd (omega arith)
          same_verdict (no_room g q) d = absurd (omega (arith, ap (λ (l : Left). kind l.answer) (ends q), settled_kind y))

      go : (r : Got Net) → circuit text ≡ r → Same (circuit_call text s o p) (circuit_call text s' o p')
      go (got net rest) e = reading net rest e (passed text net rest e s o p (circuit_call text s o p).answer (settled_passes y) refl) (case net (room s) (output_rows net o)) (case net (room s') (output_rows net o))
      go (refused w) e = refused_text (lengths_fine s) refl
        where
          refused_text : (b : Bool) → lengths_fine s ≡ b → Same (circuit_call text s o p) (circuit_call text s' o p')
          refused_text true f = absurd (settled_passes y _ (ap (λ (l : Left). l.answer) (call_read text s o p f e)))
          refused_text false f = absurd (settled_passes y 1 (ap (λ (l : Left). l.answer) (call_lengths text s o p f)))

  -- two tables of one size get the same, whatever stood in them
  pub old_contents : length s'.vars ≡ length s.vars → length s'.thens ≡ length s.thens → length s'.elses ≡ length s.elses → Same (circuit_call text s o p) (circuit_call text s' o p')
  unfolding circuit_call lengths_fine
  old_contents a b c = rw (a, b, c) (same_unless (lengths_fine s) (refuse 1 s p) (judge_read (circuit text) s o p) (refuse 1 s' p') (judge_read (circuit text) s' o p') (same_refusal 1 s s' p p') (go (circuit text)))
    where
      go : (r : Got Net) → Same (judge_read r s o p) (judge_read r s' o p')
      go (refused w) = same_refusal _ s s' p p'
      go (got net rest) = rw (long, a) (same_unless (ltb o (length net.outputs)) _ _ _ _ (same_refusal 14 s s' p p')
          (same_unless (eqb (length p) (length net.inputs)) _ _ _ _ (same_refusal 15 s s' p p') (same_ends (verdict_of net (room s) o) s s' p p')))
