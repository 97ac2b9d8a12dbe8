-- What the calls equation and normal form answer, leave and mean, for all inputs.
-- Assumes nothing: these are definitions.
use Rattle.std.specs.Prelude.{ℕ, ◌+◌, ◌<◌, ◌≡◌, Bool, true, false, ◌&&◌, not, eqb, ltb, Result, Ok, Err}
use Rattle.std.specs.Bool.{beq}
use Rattle.steps.specs.Rows.{Rows, Assignment, value, root}
use Rattle.steps.specs.Sound.{sound}
use Rattle.steps.specs.Steps.{normal}
use Rattle.steps.specs.System.{equation, holds, leads, occurs}
use Rattle.steps.specs.Table.{Slices, rows_of}
use Rattle.table.specs.declared.Refusal.{Refusal}
use Rattle.table.specs.Answers.{number_of_refusal}
use Rattle.table.specs.Calls.{unless◌then◌else◌, checked, in_range, in_use, Left, refuse, take_steps}

-- "3: a number isn't 0, 1 or a row in use"; "4: system number is 0"; then what the call does
abbrev pub system_checked : ℕ → Slices → ℕ → ℕ → Left → Left
system_checked c s k F done = unless in_use c k && in_use c F then refuse 3 s else unless not (eqb F 0) then refuse 4 s else done

-- the number k and the system F are in use, and F is not 0
pub record SystemInUse (c k F : ℕ) : Type 0 where
  pub number : k < c + 2
  pub system : F < c + 2
  pub not_0 : F ≡ 0 → ⊥

-- what the two questions come to: all is in use, or the call is refused so, whatever else it does
abbrev pub Questioned : {A : Type 0} → Result A Refusal → ℕ → ℕ → ℕ → Type 0
Questioned (Ok a) c k F = SystemInUse c k F
Questioned (Err why) c k F = (s : Slices) (done : Left) → system_checked c s k F done ≡ refuse (number_of_refusal why) s

-- "Adding an equation needs i < N, and the roots of F and of t to be greater in index than i." (5)
abbrev pub in_order : ℕ → Rows → ℕ → ℕ → ℕ → Bool
in_order N R i F t = ltb i N && ltb i (root N R F) && ltb i (root N R t)

abbrev pub equation_checked : ℕ → ℕ → Slices → ℕ → ℕ → ℕ → Left
equation_checked N c s i F t = system_checked c s t F (unless in_order N (rows_of s c) i F t then refuse 5 s else take_steps (equation i F t) c s)

unfoldable pub equation_call : ℕ → ℕ → Slices → ℕ → ℕ → ℕ → Left
equation_call N c s i F t = checked (in_range N c s) (sound N (rows_of s c)) (λ why. refuse why s) (equation_checked N c s i F t)

-- "Row (i, F, t) is the system F with the equation x_i + t = 0 added."
abbrev pub Adds : ℕ → Slices → ℕ → ℕ → ℕ → ℕ → ℕ → Slices → Type 0
Adds c s i F t k n s' = (a : Assignment) → holds a (rows_of s' n) k ≡ beq (a i) (value a (rows_of s c) t) && holds a (rows_of s c) F

abbrev pub normal_checked : ℕ → ℕ → Slices → ℕ → ℕ → Left
normal_checked N c s p F = system_checked c s p F (take_steps (normal N p F) c s)

unfoldable pub normal_call : ℕ → ℕ → Slices → ℕ → ℕ → Left
normal_call N c s p F = checked (in_range N c s) (sound N (rows_of s c)) (λ why. refuse why s) (normal_checked N c s p F)

-- "a normal form holds no lead variable and agrees with its input wherever the system holds"
pub record Reduced (c : ℕ) (s : Slices) (p F k n : ℕ) (s' : Slices) : Type 0 where
  pub agrees : (a : Assignment) → holds a (rows_of s c) F ≡ true → value a (rows_of s' n) k ≡ value a (rows_of s c) p
  pub no_lead : (v : ℕ) → leads v (rows_of s c) F ≡ true → occurs v (rows_of s' n) k ≡ false
