-- A circuit's steps read literally: "Room has run out when a row must be appended and all R are in use." These are the steps of specs/Systems.antt with `append_in` of the crate
-- steps for every row, which looks at the room before it appends; they come to what the steps without that test come to, compared with the room at the end.
use Prim.Native.Nat.{ℕ, suc, ◌/◌, ◌%◌, ◌<◌, ◌≤◌}
use mathlib.Core.Path.{◌≡◌, sym, ◌∙◌}
use mathlib.Core.List.{List, [], ◌∷◌}
use native.Mathlib.Omega.{arith}
use lib.Dec.{ltb}
use lib.ListN.{get_or}
use Rattle.steps.specs.Room.{Ending, made, full, within}
use Rattle.steps.specs.Rows.{Rows, none, count}
use Rattle.steps.proofs.Room.{within_full, Fit, fits, over, fit}
use Rattle.steps.proofs.Stepwise.{Limited, then_do, give, when◌run◌otherwise◌, make_in, products_in, normals_in, Both, both_bind, both_if, both_answer, both_make, both_product, both_normal}
use Rattle.aiger.specs.Form.{Gate}
use Rattle.aiger.specs.Net.{Net}
use Rattle.verdicts.specs.Systems.{ring, literal_steps, gate_steps, build, output_steps}
use Rattle.verdicts.specs.Verdicts.{output_rows, rows_needed}

module _ (room M : ℕ) where
  abbrev pub InRoom : Type 0
  InRoom = Limited room

  -- one after the other, so that `do` writes them down in order; full stops all
  infixl 20 ◌>>=◌
  abbrev ◌>>=◌ : InRoom → (ℕ → InRoom) → InRoom
  ◌>>=◌ m f R = then_do room (m R) f

  pub literal_in : ℕ → InRoom
  literal_in l = when◌run◌otherwise◌ room (ltb l 2) (give room l) (make_in room (ring M (l / 2)) 1 (l % 2))

  pub gate_in : Gate → ℕ → InRoom
  gate_in g F = do
    f ← literal_in g.right0
    h ← literal_in g.right1
    t ← products_in room M (suc M) f h
    make_in room (ring M (g.left / 2)) F t

  pub build_in : List Gate → ℕ → InRoom
  build_in [] F = give room F
  build_in (g ∷ gs) F = do
    G ← gate_in g F
    build_in gs G

  pub output_in : List Gate → ℕ → InRoom
  output_in gs l = do
    F ← build_in gs 1
    p ← literal_in l
    normals_in room M (suc M) p F

  both_literal : (l : ℕ) → Both room M (literal_in l) (literal_steps M l)
  unfolding literal_in literal_steps
  both_literal l = both_if room M (ltb l 2) (both_answer room M l) (both_make room M (ring M (l / 2)) 1 (l % 2))

  both_gate : (g : Gate) (F : ℕ) → Both room M (gate_in g F) (gate_steps M g F)
  unfolding gate_in
  both_gate g F = both_bind room M (both_literal g.right0) λ f. both_bind room M (both_literal g.right1) λ h. both_bind room M (both_product room M f h) (both_make room M (ring M (g.left / 2)) F)

  both_build : (gs : List Gate) (F : ℕ) → Both room M (build_in gs F) (build M gs F)
  unfolding build_in build
  both_build [] F = both_answer room M F
  both_build (g ∷ gs) F = both_bind room M (both_gate g F) (both_build gs)

  both_output : (gs : List Gate) (l : ℕ) → Both room M (output_in gs l) (output_steps M gs l)
  unfolding output_in
  both_output gs l = both_bind room M (both_build gs 1) λ F. both_bind room M (both_literal l) λ p. both_normal room M p F

  pub output_stepwise : (gs : List Gate) (l : ℕ) (R : Rows) → count R ≤ room → output_in gs l R ≡ within room (output_steps M gs l R)
  output_stepwise gs l R h = (both_output gs l).does R h

-- what output o comes to, going step by step in an empty table
abbrev pub output_ending : ℕ → Net → ℕ → Ending
output_ending room net o = output_in room net.M net.gates (get_or net.outputs o 0) none

module _ (room : ℕ) (net : Net) (o : ℕ) where
  ends_within : output_ending room net o ≡ within room (output_rows net o)
  unfolding count
  ends_within = output_stepwise room net.M net.gates (get_or net.outputs o 0) none (omega arith)

  -- it comes to a full table exactly where the steps need more rows than that
  pub runs_out : room < rows_needed net o → output_ending room net o ≡ full
  runs_out h = ends_within ∙ within_full room (output_rows net o) h

  pub only_then : output_ending room net o ≡ full → room < rows_needed net o
  only_then e = go (fit room (output_rows net o))
    where
      go : Fit room (output_rows net o) → room < rows_needed net o
      go (fits h q) = absurd (let z : made (output_rows net o).num (output_rows net o).rows ≡ full = sym q ∙ sym ends_within ∙ e in let y : ◌≡◌ {A = ℕ} 0 1 = cc in omega arith)
      go (over h q) = h
