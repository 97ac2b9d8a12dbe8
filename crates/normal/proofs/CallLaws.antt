-- The ways out of the calls equation and normal form.
use Prim.Native.Nat.{ℕ, ◌+◌, ◌<◌}
use mathlib.Core.Path.{◌≡◌}
use mathlib.Core.Bool.{true, ◌&&◌, not}
use native.Mathlib.Omega.{arith}
use lib.Dec.{ltb, eqb}
use borrow.Author.Tests.{lt-ltb, ne_eqb, eq-eqb, ltb-true}
use Rattle.std.specs.Prelude.{Result, OnErr}
use Rattle.steps.specs.Rows.{next, root}
use Rattle.steps.specs.Steps.{normal}
use Rattle.steps.specs.System.{InOrder, equation}
use Rattle.steps.specs.Table.{Slices, rows_of}
use Rattle.steps.proofs.Bools.{both_true}
use Rattle.steps.proofs.Equations.{equation_holds}
use Rattle.steps.proofs.Table.{rows_of_next}
use Rattle.steps.proofs.Theorems.{normal_agrees, normal_no_lead}
use Rattle.steps.proofs.Sound.{sound_true}
use Rattle.table.specs.declared.Row.{Row as Number}
use Rattle.table.specs.declared.Refusal.{Refusal}
use Rattle.table.specs.Answers.{Answer, Made, Refused, answered_of}
use Rattle.table.specs.Calls.{unless◌then◌else◌, in_use, Left, left, refuse, take_steps, IfMade, Does}
use Rattle.table.proofs.Laid.{steps_made}
use Rattle.checks.proofs.CallEnds.{unless_made, checked_made, does_unique, does_result_unique}
use Rattle.normal.specs.Calls.{system_checked, in_order, SystemInUse, equation_checked, equation_call, Adds, normal_checked, normal_call, Reduced}

-- what is known of a system is known of an equal number
pub same_system : {c k F G : ℕ} → SystemInUse c k F → F ≡ G → SystemInUse c k G
same_system u e = record { number = u.number; system = omega (arith, u.system, e); not_0 = λ z. u.not_0 (omega (arith, e, z)) }

-- neither 3 nor 4
module _ (c k F : ℕ) (s : Slices) (done : Left) where
  pub system_fine : SystemInUse c k F → done ≡ system_checked c s k F done
  system_fine u = rw (lt-ltb k (c + 2) u.number, lt-ltb F (c + 2) u.system, ne_eqb F 0 u.not_0)

  system_made : {m : Number} {n : ℕ} {s' : Slices} → system_checked c s k F done ≡ left (Made m n) s' → SystemInUse c k F × (done ≡ left (Made m n) s')
  system_made e =
      let used = unless_made (in_use c k && in_use c F) 3 s (unless not (eqb F 0) then refuse 4 s else done) e in
      let some = unless_made (not (eqb F 0)) 4 s done used.1 in
      let both = both_true (in_use c k) (in_use c F) used.0 in
      (record { number = ltb-true k _ both.0; system = ltb-true F _ both.1; not_0 = not_zero some.0 }, some.1)
    where
      not_zero : not (eqb F 0) ≡ true → F ≡ 0 → ⊥
      not_zero e z = let f = rw (eq-eqb F 0 z) at e in cc

-- adding an equation
module _ (N c : ℕ) (s : Slices) (i F t : ℕ) where
  adds : (r : Answer) (s' : Slices) → equation_call N c s i F t ≡ left r s' → IfMade (Adds c s i F t) r s'
  unfolding equation_call
  adds (Refused why) s' e = tt
  adds (Made k n) s' e =
      let checks = checked_made N c s (equation_checked N c s i F t) e in
      let asked = system_made c t F s (unless in_order N (rows_of s c) i F t then refuse 5 s else take_steps (equation i F t) c s) checks.1 in
      let ordered = unless_made (in_order N (rows_of s c) i F t) 5 s (take_steps (equation i F t) c s) asked.1 in
      let two = both_true (ltb i N && ltb i (root N (rows_of s c) F)) (ltb i (root N (rows_of s c) t)) ordered.0 in
      let one = both_true (ltb i N) (ltb i (root N (rows_of s c) F)) two.0 in
      let order : InOrder N (rows_of s c) i F t = record { lead_below = ltb-true i N one.0; system_above = ltb-true i _ one.1; tail_above = ltb-true i _ two.1 } in
      let u = asked.0 in
      λ x. rw (steps_made (equation i F t) c s ordered.1) at (equation_holds N (rows_of s c) (sound_true N (rows_of s c) checks.0) i F t (omega (arith, rows_of_next s c, u.system)) (omega (arith, rows_of_next s c, u.number)) u.not_0 order x)

  pub equation_does : {r : Answer} {s' : Slices} → equation_call N c s i F t ≡ left r s' → Does (Adds c s i F t) (equation_call N c s i F t) r s'
  equation_does {r} {s'} e = record { is = e; means = adds r s' e }

-- the normal form
module _ (N c : ℕ) (s : Slices) (p F : ℕ) where
  reduced : (r : Answer) (s' : Slices) → normal_call N c s p F ≡ left r s' → IfMade (Reduced c s p F) r s'
  unfolding normal_call
  reduced (Refused why) s' e = tt
  reduced (Made k n) s' e =
      let checks = checked_made N c s (normal_checked N c s p F) e in
      let asked = system_made c p F s (take_steps (normal N p F) c s) checks.1 in
      let u = asked.0 in
      let d = sound_true N (rows_of s c) checks.0 in
      let p_in : p < next (rows_of s c) = omega (arith, rows_of_next s c, u.number) in
      let F_in : F < next (rows_of s c) = omega (arith, rows_of_next s c, u.system) in
      let made = steps_made (normal N p F) c s asked.1 in
      record {
        agrees = rw made at (normal_agrees N (rows_of s c) d p F p_in F_in u.not_0);
        no_lead = rw made at (normal_no_lead N (rows_of s c) d p F p_in F_in u.not_0);
      }

  pub normal_does : {r : Answer} {s' : Slices} → normal_call N c s p F ≡ left r s' → Does (Reduced c s p F) (normal_call N c s p F) r s'
  normal_does {r} {s'} e = record { is = e; means = reduced r s' e }

-- "Uniqueness is proved: any two outcomes a contract allows coincide."
pub equation_unique : (N c : ℕ) (s : Slices) (i F t : ℕ) (r r' : Answer) (z z' : Slices) → Does (Adds c s i F t) (equation_call N c s i F t) r z → Does (Adds c s i F t) (equation_call N c s i F t) r' z' → left r z ≡ left r' z'
equation_unique N c s i F t = does_unique (Adds c s i F t) (equation_call N c s i F t)

pub normal_form_unique : (N c : ℕ) (s : Slices) (p F : ℕ) (r r' : Answer) (z z' : Slices) → Does (Reduced c s p F) (normal_call N c s p F) r z → Does (Reduced c s p F) (normal_call N c s p F) r' z' → left r z ≡ left r' z'
normal_form_unique N c s p F = does_unique (Reduced c s p F) (normal_call N c s p F)

-- the same of the code's results
pub equation_result_unique : (N c : ℕ) (s : Slices) (i F t : ℕ) (r r' : Result Number Refusal) (n n' : ℕ) (z z' : Slices)
    → Does (Adds c s i F t) (equation_call N c s i F t) (answered_of r n) z → OnErr r (n ≡ c) → Does (Adds c s i F t) (equation_call N c s i F t) (answered_of r' n') z' → OnErr r' (n' ≡ c)
    → (r ≡ r') × (n ≡ n') × (z ≡ z')
equation_result_unique N c s i F t = does_result_unique (Adds c s i F t) (equation_call N c s i F t) c

pub normal_form_result_unique : (N c : ℕ) (s : Slices) (p F : ℕ) (r r' : Result Number Refusal) (n n' : ℕ) (z z' : Slices)
    → Does (Reduced c s p F) (normal_call N c s p F) (answered_of r n) z → OnErr r (n ≡ c) → Does (Reduced c s p F) (normal_call N c s p F) (answered_of r' n') z' → OnErr r' (n' ≡ c)
    → (r ≡ r') × (n ≡ n') × (z ≡ z')
normal_form_result_unique N c s p F = does_result_unique (Reduced c s p F) (normal_call N c s p F) c
