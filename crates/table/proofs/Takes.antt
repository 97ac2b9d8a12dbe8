-- How taken steps are put together.
use Prim.Native.Nat.{ℕ, ◌+◌, ◌-◌, ◌<◌, ◌≤◌}
use mathlib.Core.Path.{◌≡◌, refl, sym, ap, ◌∙◌}
use mathlib.Core.List.{List}
use native.Mathlib.Omega.{arith}
use native.Mathlib.Numerals.{add-one}
use lib.ListN.{length, set, drop, length-set}
use lib.Seq.{drop-set-lt, drop-drop, get_or-set_other}
use Rattle.steps.specs.Rows.{row_of, count}
use Rattle.steps.specs.Table.{Slices, slices, rows_of}
use Rattle.steps.specs.Steps.{Steps, answer, append, ◌>>=◌}
use Rattle.steps.specs.Room.{Ending, within}
use Rattle.steps.proofs.Keeps.{Keeps}
use Rattle.steps.proofs.Room.{within_made, within_full, within_tells, then_within, within_bind}
use Rattle.steps.proofs.Table.{rows_of_count, rows_of_next, rows_of_agree, rows_of_less, rows_of_push}
use Rattle.table.specs.declared.Row.{Row}
use Rattle.table.specs.Made.{Made}
use Rattle.table.specs.Made.{At, Full}
use Rattle.table.specs.Lent.{room, Lent}
use Rattle.table.specs.Inner.{Beyond, Rest, Taken}

-- the same steps under another name
pub taken_by : {m n : Steps} {r : Made} {c : ℕ} {s s' : Slices} → m (rows_of s c) ≡ n (rows_of s c) → Taken n r c s s' → Taken m r c s s'
taken_by {s = s} p d = record { is = ap (within (room s)) p ∙ d.is; vars = d.vars; thens = d.thens; elses = d.elses; kept = d.kept; rest = d.rest }

-- nothing was appended
pub taken_nothing : {m : Steps} {k : Row} {c : ℕ} {s : Slices} → c ≤ room s → m (rows_of s c) ≡ answer k.0 (rows_of s c) → Taken m (At k c) c s s
taken_nothing {m} {k} {c} {s} h p = record {
  is = ap (within (room s)) p ∙ within_made (room s) (answer k.0 (rows_of s c)) (omega (arith, rows_of_count s c));
  vars = refl;
  thens = refl;
  elses = refl;
  kept = refl;
  rest = record { more = omega arith; fits = h; vars = refl; thens = refl; elses = refl };
}

-- the table is still one of three slices: with the rows that it then has, and, also where room has run out, with those that it had
lent_with : {m : Steps} {r : Made} {c : ℕ} {s s' : Slices} (n : ℕ) → n ≤ room s → Lent c s → Taken m r c s s' → Lent n s'
lent_with n h l d = record { used = omega (arith, d.vars); small = omega (arith, l.small, d.vars); thens = d.thens ∙ l.thens ∙ sym d.vars; elses = d.elses ∙ l.elses ∙ sym d.vars }

pub taken_lent : {m : Steps} {k : Row} {c n : ℕ} {s s' : Slices} → Lent c s → Taken m (At k n) c s s' → Lent n s'
taken_lent {n = n} l d = lent_with n d.rest.fits l d

pub taken_lends : {m : Steps} {r : Made} {c : ℕ} {s s' : Slices} → Lent c s → Taken m r c s s' → Lent c s'
taken_lends {c = c} l d = lent_with c l.used l d

-- what the rows in use then are
pub taken_rows : {m : Steps} {k : Row} {c n : ℕ} {s s' : Slices} → Taken m (At k n) c s s' → m (rows_of s c) ≡ answer k.0 (rows_of s' n)
taken_rows {m} {k} {c} {n} {s} {s'} d = within_tells (room s) (m (rows_of s c)) k.0 (rows_of s' n) d.is

-- no room: what comes after is not done
pub taken_full : {m : Steps} {c : ℕ} {s s' : Slices} (f : ℕ → Steps) → ((x : ℕ) → Keeps (f x)) → Taken m Full c s s' → Taken (m >>= f) Full c s s'
taken_full {m} {c} {s} f keeps d = record {
  is = within_bind (room s) m f (rows_of s c) (keeps (m (rows_of s c)).num (m (rows_of s c)).rows) ∙ ap (λ (x : Ending). then_within (room s) x f) d.is;
  vars = d.vars;
  thens = d.thens;
  elses = d.elses;
  kept = d.kept;
  rest = tt;
}

pub behind_more : (n m : ℕ) (l l' : List ℕ) → m ≤ n → drop m l' ≡ drop m l → drop n l' ≡ drop n l
behind_more n m l l' h p =
    let q : m + (n - m) ≡ n = omega arith in
    ap (λ (k : ℕ). drop k l') (sym q) ∙ sym (drop-drop (n - m) m l') ∙ ap (drop (n - m)) p ∙ drop-drop (n - m) m l ∙ ap (λ (k : ℕ). drop k l) q

rest_then : (r : Made) (c n : ℕ) (s s' s'' : Slices) → room s' ≡ room s → Beyond c n s s' → Rest r n s' s'' → Rest r c s s''
rest_then (At k m) c n s s' s'' l b d = record {
  more = omega (arith, b.more, d.more);
  fits = omega (arith, d.fits);
  vars = d.vars ∙ behind_more m n s.vars s'.vars d.more b.vars;
  thens = d.thens ∙ behind_more m n s.thens s'.thens d.more b.thens;
  elses = d.elses ∙ behind_more m n s.elses s'.elses d.more b.elses;
}
rest_then Full c n s s' s'' l b d = tt

-- one thing after another
pub taken_then : {m : Steps} {k : Row} {r : Made} {c n : ℕ} {s s' s'' : Slices} (f : ℕ → Steps) → ((x : ℕ) → Keeps (f x))
    → Taken m (At k n) c s s' → Taken (f k.0) r n s' s'' → Taken (m >>= f) r c s s''
taken_then {m} {k} {r} {c} {n} {s} {s'} {s''} f keeps d d' = record {
  is = within_bind (room s) m f (rows_of s c) (keeps (m (rows_of s c)).num (m (rows_of s c)).rows) ∙ ap (λ (x : Ending). then_within (room s) x f) d.is
      ∙ ap (λ (z : ℕ). within z (f k.0 (rows_of s' n))) (sym d.vars) ∙ d'.is;
  vars = d'.vars ∙ d.vars;
  thens = d'.thens ∙ d.thens;
  elses = d'.elses ∙ d.elses;
  kept = rows_of_less c n s'' s' d.rest.more d'.kept ∙ d.kept;
  rest = rest_then r c n s s' s'' d.vars d.rest d'.rest;
}

-- a row appended
module _ (vs ts es : List ℕ) (c v t e : ℕ) where
  abbrev s : Slices
  s = slices vs ts es

  pub append_full : Lent c (slices vs ts es) → length vs ≤ c → Taken (append (row_of v t e)) Full c (slices vs ts es) (slices vs ts es)
  unfolding count
  append_full l h = record {
    is = within_full (length vs) (append (row_of v t e) (rows_of s c)) (omega (arith, rows_of_count s c, l.used));
    vars = refl;
    thens = refl;
    elses = refl;
    kept = refl;
    rest = tt;
  }

  pub append_room : Lent c (slices vs ts es) → c < length vs
      → Taken (append (row_of v t e)) (At (record { 0 = c + 2 }) (c + 1)) c (slices vs ts es) (slices (set vs c v) (set ts c t) (set es c e))
  unfolding count
  append_room l h = record {
    is = within_made (length vs) (append (row_of v t e) (rows_of s c)) (omega (arith, rows_of_count s c))
        ∙ rw (add-one c, rows_of_push vs ts es c v t e h (omega (arith, l.thens)) (omega (arith, l.elses)), rows_of_next s c);
    vars = length-set vs c v;
    thens = length-set ts c t;
    elses = length-set es c e;
    kept = rows_of_agree c (slices (set vs c v) (set ts c t) (set es c e)) s (λ k q. rw (
      get_or-set_other vs c k v 0 (λ z. omega arith),
      get_or-set_other ts c k t 0 (λ z. omega arith),
      get_or-set_other es c k e 0 (λ z. omega arith),
    ));
    rest = record {
      more = omega arith;
      fits = omega arith;
      vars = drop-set-lt (c + 1) vs c v (omega arith);
      thens = drop-set-lt (c + 1) ts c t (omega arith);
      elses = drop-set-lt (c + 1) es c e (omega arith);
    };
  }
