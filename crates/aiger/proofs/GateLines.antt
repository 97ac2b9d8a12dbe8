-- The loop over the gate lines: what is left to read after k gates. Assumes nothing.
use Prim.Native.Nat.{ℕ, ◌+◌, ◌-◌, ◌/◌, ◌<◌, ◌≤◌}
use mathlib.Core.Path.{◌≡◌, refl, sym, ap, ◌∙◌}
use mathlib.Core.Bool.{Bool, true, false}
use mathlib.Core.List.{List, [], ◌∷◌, ◌++◌, append_assoc}
use native.Mathlib.Omega.{arith}
use Rattle.std.proofs.Common.{Ok, Err}
use lib.ListN.{length, take, drop, set, length-set}
use Rattle.aiger.specs.Form.{Gate, gate}
use Rattle.aiger.specs.Net.{Got, got, refused, on_line, fresh, in_order, rights_defined, lefts, gate_lines}
use Rattle.aiger.specs.Answers.{lits_of, gates_in}
use Rattle.aiger.specs.Marked.{Marks, GatesRead}
use Rattle.aiger.specs.declared.lines.Gate as lines
use Rattle.aiger.specs.declared.refusal.Refusal.{Refusal}
use Rattle.aiger.specs.declared.refusal.Refusal.TheVariants.{Literal, Order}
use Rattle.aiger.proofs.Accepted.{in_order_lem}
use Rattle.aiger.proofs.LiteralLines.{less, filled_more, length_filled}

-- a gate in order reads marks that there are
pub rights_low : (p : ℕ) (g : Gate) {M : ℕ} → in_order p g ≡ true → g.left / 2 ≤ M → M ≤ 1024 → (g.right0 / 2 ≤ 1024) × (g.right1 / 2 ≤ 1024)
rights_low p g e b m = let o = in_order_lem p g e in (omega arith, omega arith)

pub lefts_snoc : (gs : List Gate) (g : Gate) → lefts (gs ++ g ∷ []) ≡ lefts gs ++ g.left ∷ []
lefts_snoc [] g = refl
lefts_snoc (x ∷ gs) g = ap (λ (r : List ℕ). x.left ∷ r) (lefts_snoc gs g)

module _ (M n : ℕ) (ls : List ℕ) (p c k : ℕ) (gs : List Gate) (t : List ℕ) where
  gates_done : c ≤ k → gate_lines M n ls p (c - k) gs t ≡ got gs t
  unfolding gate_lines
  gates_done h = let z : c - k ≡ 0 = omega arith in rw z

  module _ (h : k < c) where
    gates_bad : {w : Refusal} → on_line (n + length gs) gate t ≡ refused w → gate_lines M n ls p (c - k) gs t ≡ refused w
    unfolding gate_lines
    gates_bad e = rw (less c k h, e)

    module _ {g : Gate} {u : List ℕ} (e : on_line (n + length gs) gate t ≡ got g u) where
      gates_used : fresh M (ls ++ lefts gs) g.left ≡ false → gate_lines M n ls p (c - k) gs t ≡ refused (Literal (n + length gs))
      unfolding gate_lines
      gates_used f = rw (less c k h, e, f)

      module _ (f : fresh M (ls ++ lefts gs) g.left ≡ true) where
        gates_order : in_order p g ≡ false → gate_lines M n ls p (c - k) gs t ≡ refused (Order (n + length gs))
        unfolding gate_lines
        gates_order o = rw (less c k h, e, f, o)

        module _ (o : in_order p g ≡ true) where
          gates_undefined : rights_defined (ls ++ lefts gs) g ≡ false → gate_lines M n ls p (c - k) gs t ≡ refused (Literal (n + length gs))
          unfolding gate_lines
          gates_undefined d = rw (less c k h, e, f, o, d)

          gates_on : rights_defined (ls ++ lefts gs) g ≡ true → gate_lines M n ls p (c - k) gs t ≡ gate_lines M n ls g.left (c - (k + 1)) (gs ++ g ∷ []) u
          unfolding gate_lines
          gates_on d = rw (less c k h, e, f, o, d)

-- what holds for each list ls of the inputs' literals
pub record GatesFor (s : List ℕ) (from M n c : ℕ) (gs : List lines.Gate) (marks : List Bool) (at k p : ℕ) (ls : List ℕ) : Type 0 where
  pub marked : Marks marks (ls ++ lefts (gates_in (take k gs)))
  pub rest : gate_lines M n ls 0 c [] (drop from s) ≡ gate_lines M n ls p (c - k) (gates_in (take k gs)) (drop at s)

pub record GatesInv (s : List ℕ) (from M n c : ℕ) (gs0 gs : List lines.Gate) (marks0 marks : List Bool) (at k p : ℕ) : Type 0 where
  pub low : k ≤ c
  pub same : length gs ≡ length gs0
  pub room : c ≤ length gs
  pub each : (ls : List ℕ) → Marks marks0 ls → GatesFor s from M n c gs marks at k p ls

module _ {s : List ℕ} {from M n c : ℕ} {gs0 gs : List lines.Gate} {marks0 marks : List Bool} {at k p : ℕ}
    (i : GatesInv s from M n c gs0 gs marks0 marks at k p) where
  abbrev read_so_far : List Gate
  read_so_far = gates_in (take k gs)

  -- the line after those read so far
  gates_line : on_line (n + length read_so_far) gate (drop at s) ≡ on_line (n + k) gate (drop at s)
  gates_line = rw (length_filled lits_of gs k (omega (arith, i.low, i.room)))

  gates_refused : {w : Refusal}
      → ((ls : List ℕ) → Marks marks (ls ++ lefts read_so_far) → gate_lines M n ls p (c - k) read_so_far (drop at s) ≡ refused w)
      → (ls : List ℕ) → Marks marks0 ls → GatesRead s from M n c ls marks (Err w)
  gates_refused e ls m =
      let j = i.each ls m in
      record { answer = sym (j.rest ∙ e ls j.marked); marked = λ x z. absurd (cc) }

  module _ (h : k < c) where
    pub gates_stop : {w : Refusal} → on_line (n + k) gate (drop at s) ≡ refused w → (ls : List ℕ) → Marks marks0 ls → GatesRead s from M n c ls marks (Err w)
    gates_stop e = gates_refused (λ ls m. gates_bad M n ls p c k read_so_far (drop at s) h (gates_line ∙ e))

    module _ {g : Gate} {u : List ℕ} (e : on_line (n + k) gate (drop at s) ≡ got g u) where
      -- the refusal names the line
      named : (why : ℕ → Refusal) → ◌≡◌ {A = Got (List Gate)} (refused (why (n + length read_so_far))) (refused (why (n + k)))
      named why = rw (length_filled lits_of gs k (omega (arith, i.low, i.room)))

      pub gates_defined : ((ls : List ℕ) → Marks marks ls → fresh M ls g.left ≡ false) → (ls : List ℕ) → Marks marks0 ls → GatesRead s from M n c ls marks (Err (Literal (n + k)))
      gates_defined f = gates_refused (λ ls m. gates_used M n ls p c k read_so_far (drop at s) h (gates_line ∙ e) (f (ls ++ lefts read_so_far) m) ∙ named Literal)

      module _ (f : (ls : List ℕ) → Marks marks ls → fresh M ls g.left ≡ true) where
        pub gates_unordered : in_order p g ≡ false → (ls : List ℕ) → Marks marks0 ls → GatesRead s from M n c ls marks (Err (Order (n + k)))
        gates_unordered o = gates_refused (λ ls m. gates_order M n ls p c k read_so_far (drop at s) h (gates_line ∙ e) (f (ls ++ lefts read_so_far) m) o ∙ named Order)

        pub gates_unknown : in_order p g ≡ true → ((ls : List ℕ) → Marks marks ls → rights_defined ls g ≡ false)
            → (ls : List ℕ) → Marks marks0 ls → GatesRead s from M n c ls marks (Err (Literal (n + k)))
        gates_unknown o d = gates_refused
            (λ ls m. gates_undefined M n ls p c k read_so_far (drop at s) h (gates_line ∙ e) (f (ls ++ lefts read_so_far) m) o (d (ls ++ lefts read_so_far) m) ∙ named Literal)

  pub gates_next : k < c → {g : lines.Gate} {q : ℕ} {marks' : List Bool} → on_line (n + k) gate (drop at s) ≡ got (lits_of g) (drop q s)
      → ((ls : List ℕ) → Marks marks ls → fresh M ls g.left.0 ≡ true) → in_order p (lits_of g) ≡ true → ((ls : List ℕ) → Marks marks ls → rights_defined ls (lits_of g) ≡ true)
      → ((ls : List ℕ) → Marks marks ls → Marks marks' (ls ++ g.left.0 ∷ []))
      → GatesInv s from M n c gs0 (set gs k g) marks0 marks' q (k + 1) g.left.0
  gates_next h {g} {q} e f o d b =
      let t : gates_in (take (k + 1) (set gs k g)) ≡ read_so_far ++ lits_of g ∷ [] = filled_more lits_of gs k g (omega (arith, i.room)) in
      record {
        low = omega arith;
        same = rw length-set i.same;
        room = rw length-set i.room;
        each = λ ls m.
            let j = i.each ls m in
            record {
              marked = rw (t, lefts_snoc read_so_far (lits_of g), ← append_assoc ls (lefts read_so_far) (g.left.0 ∷ [])) (b (ls ++ lefts read_so_far) j.marked);
              rest = rw t (j.rest ∙ gates_on M n ls p c k read_so_far (drop at s) h (gates_line ∙ e) (f (ls ++ lefts read_so_far) j.marked) o (d (ls ++ lefts read_so_far) j.marked));
            };
      }

  pub gates_end : c ≤ k → (ls : List ℕ) → Marks marks0 ls → GatesRead s from M n c ls marks (Ok (gs, at))
  gates_end h ls m =
      let j = i.each ls m in
      let e : c ≡ k = omega (arith, i.low) in
      let t : gates_in (take c gs) ≡ read_so_far = ap (λ (d : ℕ). gates_in (take d gs)) e in
      record { answer = rw t (sym (j.rest ∙ gates_done M n ls p c k read_so_far (drop at s) h)); marked = λ x z. let y : x ≡ (gs, at) = cc in rw (y, t) j.marked }
