-- What the code's values stand for: a table as it is lent, and a view of its rows.
-- Assumes nothing: these are definitions.
use Rattle.std.specs.Prelude.{◌≡◌, length}
use Rattle.steps.specs.Rows.{Row as Triple, Rows as Row-list, row_of}
use Rattle.steps.specs.Table.{Slices, slices, rows_of}
use Rattle.table.specs.declared.rows.Node.{Node}
use Rattle.table.specs.declared.rows.Rows.{Rows}
use Rattle.table.specs.declared.rows.View.{View}
use Rattle.table.specs.declared.Table.{Table}

-- the row that a node is
abbrev pub triple : Node → Triple
triple x = row_of x.v.0 x.t.0 x.e.0

-- the slices of a table that is lent to be read
abbrev pub slices_seen : View → Slices
slices_seen v = slices v.vs.now v.ts.now v.es.now

-- the slices of checked rows, and the rows themselves
abbrev pub viewed : Rows → Slices
viewed r = slices r.vs.now r.ts.now r.es.now

abbrev pub shown : Rows → Row-list
shown r = rows_of (viewed r) r.count

-- the slices of a lent table
abbrev pub slices_of : Table → Slices
slices_of t = slices t.vs.now t.ts.now t.es.now

-- the slices are as long as before
pub record SameLengths (t t' : Table) : Type 0 where
  pub vs : length t'.vs.now ≡ length t.vs.now
  pub ts : length t'.ts.now ≡ length t.ts.now
  pub es : length t'.es.now ≡ length t.es.now
  pub work : length t'.work.now ≡ length t.work.now

-- the slices are still those that the caller lent
pub record SameLoans (t t' : Table) : Type 0 where
  pub vs : t'.vs.ghost_name ≡ t.vs.ghost_name
  pub ts : t'.ts.ghost_name ≡ t.ts.ghost_name
  pub es : t'.es.ghost_name ≡ t.es.ghost_name
  pub work : t'.work.ghost_name ≡ t.work.ghost_name
