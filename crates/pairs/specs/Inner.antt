-- What a call on two numbers asks of its written steps.
-- Assumes nothing: these are definitions.
use Rattle.std.specs.Prelude.{ℕ, Result}
use denote.Ref.{MutBor}
use Rattle.steps.specs.Steps.{Steps}
use Rattle.table.specs.declared.NoRoom.{NoRoom}
use Rattle.table.specs.declared.Row.{Row}
use Rattle.table.specs.declared.Table.{Table}
use Rattle.table.specs.Tables.{KeptIn}
use Rattle.sums.specs.Inner.{PairIn}

module _ (N : ℕ) (f g : Row) where
  -- they may be taken where both numbers are in use
  abbrev pub MayTake : (MutBor Table → ℕ → Row → Row → Type 0) → Type 0
  MayTake pre = (p : MutBor Table) → PairIn N p.now f.0 g.0 → pre p N f g

  -- they are the steps m
  abbrev pub Takes : (MutBor Table → ℕ → Row → Row → Result Row NoRoom → MutBor Table → Type 0) → Steps → Type 0
  Takes post m = (p q : MutBor Table) (r : Result Row NoRoom) → PairIn N p.now f.0 g.0 → post p N f g r q → KeptIn N m r p.now q.now
