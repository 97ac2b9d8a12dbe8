-- What a call asks of its steps, and what it promises.
-- Assumes nothing: these are definitions.
use Rattle.std.specs.Prelude.{ℕ, ◌≡◌, length, Result, Ok, Err}
use denote.Ref.{MutBor}
use Rattle.steps.specs.Sound.{sound}
use Rattle.steps.specs.Table.{Slices, rows_of}
use Rattle.table.specs.declared.Table.{Table}
use Rattle.table.specs.declared.Row.{Row}
use Rattle.table.specs.declared.Refusal.{Refusal}
use Rattle.table.specs.declared.Refusal.TheVariants.{RoomOut}
use Rattle.table.specs.Answers.{answered_of, Refused, number_of_refusal}
use Rattle.table.specs.Calls.{Left, left, cleared, in_range, checked, refuse}
use Rattle.table.specs.Lent.{Lent}
use Rattle.table.specs.Tables.{LiveIn}
use Rattle.table.specs.Views.{SameLoans, slices_of}

-- the steps may be taken from a live table
abbrev pub MayStep : ℕ → (MutBor Table → ℕ → Type 0) → Type 0
MayStep n pre = (p : MutBor Table) → LiveIn n p.now → pre p n

-- after them the slices are those that were lent, as long as before
pub record StillLent (t t' : Table) : Type 0 where
  pub same : SameLoans t t'
  pub lent : Lent t.count (slices_of t')
  pub length : length t'.work.now ≡ length t.work.now

abbrev pub Keeps : ℕ → (MutBor Table → ℕ → Result Row Refusal → MutBor Table → Type 0) → Type 0
Keeps n post = (p q : MutBor Table) (r : Result Row Refusal) → LiveIn n p.now → post p n r q → StillLent p.now q.now

-- what a call's steps come to, once the free rows are zeroed where room has run out
abbrev pub Ends : Left → Result Row Refusal → Table → Table → Type 0
Ends done (Ok k) t t' = done ≡ left (answered_of (Ok k) t'.count) (slices_of t')
Ends done (Err RoomOut) t t' = done ≡ left (Refused 7) (cleared t.count (slices_of t'))
Ends done (Err why) t t' = done ≡ left (Refused (number_of_refusal why)) (slices_of t')

pub record StepsTo (done : Left) (r : Result Row Refusal) (t t' : Table) : Type 0 where
  pub kept : StillLent t t'
  pub ends : Ends done r t t'

abbrev pub ComesTo : ℕ → (ℕ → Slices → Left) → (MutBor Table → ℕ → Result Row Refusal → MutBor Table → Type 0) → Type 0
ComesTo n done post = (p q : MutBor Table) (r : Result Row Refusal) → LiveIn n p.now → post p n r q → StepsTo (done p.now.count (slices_of p.now)) r p.now q.now

-- a call that begins with the checks
abbrev pub checked_call : ℕ → (ℕ → Slices → Left) → Table → Left
checked_call n done t =
    let s = slices_of t in
    checked (in_range n t.count s) (sound n (rows_of s t.count)) (λ why. refuse why s) (done t.count s)
