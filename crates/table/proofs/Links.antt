-- A row entered into the index.
use Prim.Native.Nat.{ℕ, ◌+◌, ◌*◌, ◌-◌, ◌/◌, ◌%◌, ◌<◌, ◌≤◌}
use mathlib.Core.Path.{◌≡◌, refl, sym, ap, ◌∙◌}
use mathlib.Core.List.{List}
use native.Mathlib.Omega.{arith}
use native.Mathlib.Nat.{mod-lt}
use native.Mathlib.Decide.{ℕ_discrete}
use lib.ListN.{length, get_or, set, drop, length-set}
use lib.Seq.{get_or-drop, get_or-set_same, get_or-set_other, drop-set-lt}
use borrow.Author.Tests.{eq-eqb, ne_eqb}
use Rattle.steps.specs.Rows.{Row, Rows, none, ◌▹◌, count}
use Rattle.steps.proofs.Rows.{next_count}
use Rattle.table.specs.Index.{index_words, bucket, newest_in, Followed, Chains, link, enter, Linkable, Front}
use Rattle.table.proofs.Buckets.{Spans, spans, spans_fits, spans_room, spans_bucket, newest_here, newest_other, newest_below}

-- a row's bucket is one of the index's words
pub bucket_in : {H i : ℕ} {work : List ℕ} → Linkable H i work → (r : Row) {b : ℕ} → bucket H r ≡ b → 0 < H → b < H
bucket_in l r q p = rw q at (l.buckets p r)

-- words of two halves
pub pack_high : (a l : ℕ) → l < 65536 → (a * 65536 + l) / 65536 ≡ a
pack_high a l h = omega arith

pub pack_low : (a l : ℕ) → l < 65536 → (a * 65536 + l) % 65536 ≡ l
pack_low a l h = omega arith

-- after a link only the head of b and what row i's word names have changed
module _ (b i : ℕ) (work : List ℕ) (hb : b < length work) (hi : i < length work) (small : get_or work b 0 / 65536 < 65536) where
  abbrev mid : List ℕ
  mid = set work i (get_or work i 0 / 65536 * 65536 + get_or work b 0 / 65536)

  mid_high : (j : ℕ) → get_or mid j 0 / 65536 ≡ get_or work j 0 / 65536
  mid_high j = go (ℕ_discrete j i)
    where
      go : Dec (j ≡ i) → get_or mid j 0 / 65536 ≡ get_or work j 0 / 65536
      go (yes e) = rw (e, get_or-set_same work i (get_or work i 0 / 65536 * 65536 + get_or work b 0 / 65536) 0 hi) (pack_high _ _ small)
      go (no e) = ap (λ (w : ℕ). w / 65536) (get_or-set_other work i j _ 0 e)

  mid_low : get_or mid i 0 % 65536 ≡ get_or work b 0 / 65536
  mid_low = ap (λ (w : ℕ). w % 65536) (get_or-set_same work i _ 0 hi) ∙ pack_low _ _ small

  low_kept : (j : ℕ) → get_or (link b i work) j 0 % 65536 ≡ get_or mid j 0 % 65536
  unfolding link
  low_kept j = go (ℕ_discrete j b)
    where
      go : Dec (j ≡ b) → get_or (set mid b ((i + 2) * 65536 + get_or mid b 0 % 65536)) j 0 % 65536 ≡ get_or mid j 0 % 65536
      go (yes e) =
          rw e (ap (λ (w : ℕ). w % 65536) (get_or-set_same mid b ((i + 2) * 65536 + get_or mid b 0 % 65536) 0 (rw length-set hb)) ∙ pack_low (i + 2) _ (mod-lt (get_or mid b 0) (omega arith)))
      go (no e) = ap (λ (w : ℕ). w % 65536) (get_or-set_other mid b j _ 0 e)

  link_head : get_or (link b i work) b 0 / 65536 ≡ i + 2
  unfolding link
  link_head = ap (λ (w : ℕ). w / 65536) (get_or-set_same mid b ((i + 2) * 65536 + get_or mid b 0 % 65536) 0 (rw length-set hb)) ∙ pack_high (i + 2) _ (mod-lt (get_or mid b 0) (omega arith))

  link_head_other : (j : ℕ) → (j ≡ b → ⊥) → get_or (link b i work) j 0 / 65536 ≡ get_or work j 0 / 65536
  unfolding link
  link_head_other j n = ap (λ (w : ℕ). w / 65536) (get_or-set_other mid b j _ 0 n) ∙ mid_high j

  link_before : get_or (link b i work) i 0 % 65536 ≡ get_or work b 0 / 65536
  link_before = low_kept i ∙ mid_low

  link_before_other : (j : ℕ) → (j ≡ i → ⊥) → get_or (link b i work) j 0 % 65536 ≡ get_or work j 0 % 65536
  link_before_other j n = low_kept j ∙ ap (λ (w : ℕ). w % 65536) (get_or-set_other work i j _ 0 n)

length_link : (b i : ℕ) (work : List ℕ) → length (link b i work) ≡ length work
unfolding link
length_link b i work = simp length-set

drop_link : (n b i : ℕ) (work : List ℕ) → b < n → i < n → drop n (link b i work) ≡ drop n work
unfolding link
drop_link n b i work hb hi = drop-set-lt n _ b _ hb ∙ drop-set-lt n work i _ hi

-- what rows follow goes by the low halves of their words
followed_same : (H : ℕ) (R : Rows) (work work' : List ℕ) → ((j : ℕ) → j < count R → get_or work' j 0 % 65536 ≡ get_or work j 0 % 65536) → Followed H R work → Followed H R work'
unfolding Followed count
followed_same H none work work' h f = tt
followed_same H (R ▹ r) work work' h f = (followed_same H R work work' (λ j l. h j (omega arith)) f.0, h (count R) (omega arith) ∙ f.1)

chains_small : {H : ℕ} {R : Rows} {work : List ℕ} → Chains H R work → count R < 65534 → (b : ℕ) → b < H → get_or work b 0 / 65536 < 65536
chains_small {H} {R} {work} ch h b l = omega (arith, ch.heads b l, newest_below H b R, next_count R)

module _ (H : ℕ) (R : Rows) (work : List ℕ) (x : Row) (ch : Chains H R work) (in_index : bucket H x < H) (fits : H ≤ length work) (free : count R < H) (small : count R < 65534) where
  high : get_or work (bucket H x) 0 / 65536 < 65536
  high = chains_small ch small (bucket H x) in_index

  link_heads : (j : ℕ) → j < H → Dec (j ≡ bucket H x) → get_or (link (bucket H x) (count R) work) j 0 / 65536 ≡ newest_in H j (R ▹ x)
  link_heads j h (yes e) =
      rw e (link_head (bucket H x) (count R) work (omega arith) (omega arith) high ∙ sym (next_count R) ∙ sym (newest_here H R x (bucket H x) refl))
  link_heads j h (no e) =
      link_head_other (bucket H x) (count R) work (omega arith) (omega arith) high j e ∙ ch.heads j h ∙ sym (newest_other H R x j (λ q. e (sym q)))

  chains_link : Chains H (R ▹ x) (link (bucket H x) (count R) work)
  unfolding Followed
  chains_link = record {
    heads = λ j h. link_heads j h (ℕ_discrete j (bucket H x));
    follows = (
      followed_same H R work (link (bucket H x) (count R) work) (λ j l. link_before_other (bucket H x) (count R) work (omega arith) (omega arith) high j (λ q. omega arith)) ch.follows,
      link_before (bucket H x) (count R) work (omega arith) (omega arith) high ∙ ch.heads (bucket H x) in_index,
    );
  }

pub front_refl : (R : ℕ) (work : List ℕ) → Front R work work
front_refl R work = record { same_length = refl; rest = refl }

pub front_trans : {R : ℕ} {work work' work'' : List ℕ} → Front R work work' → Front R work' work'' → Front R work work''
front_trans p q = record { same_length = q.same_length ∙ p.same_length; rest = (rw p.same_length at q.rest) ∙ p.rest }

-- lists that agree behind n agree at each place there
pub behind_word : (n : ℕ) (l l' : List ℕ) → drop n l' ≡ drop n l → (i : ℕ) → n ≤ i → get_or l' i 0 ≡ get_or l i 0
behind_word n l l' e i h =
    let q : n + (i - n) ≡ i = omega arith in
    ap (λ (k : ℕ). get_or l' k 0) (sym q) ∙ sym (get_or-drop n l' (i - n) 0) ∙ ap (λ (m : List ℕ). get_or m (i - n) 0) e ∙ get_or-drop n l (i - n) 0 ∙ ap (λ (k : ℕ). get_or l k 0) q

-- entering a row
enter_none : (H i : ℕ) (r : Row) (work : List ℕ) → H ≡ 0 → enter H i r work ≡ work
unfolding enter
enter_none H i r work z = rw (eq-eqb H 0 z, enter)

enter_some : (H i : ℕ) (r : Row) (work : List ℕ) → (H ≡ 0 → ⊥) → enter H i r work ≡ link (bucket H r) i work
unfolding enter
enter_some H i r work z = rw (ne_eqb H 0 z, enter)

pub enter_not : (H i : ℕ) (r : Row) (work : List ℕ) → H ≡ 0 → enter H i r work ≡ work
enter_not = enter_none

pub enter_is : (H b i : ℕ) (r : Row) (work : List ℕ) → (H ≡ 0 → ⊥) → bucket H r ≡ b → enter H i r work ≡ link b i work
enter_is H b i r work z q = rw (← q) (enter_some H i r work z)

-- the rows R of a table of `rows` rows are indexed
module _ (rows : ℕ) (work : List ℕ) (R : Rows) (small : rows ≤ 8192) (free : count R < rows) (chains : 0 < index_words rows (length work) → Chains (index_words rows (length work)) R work) where
  abbrev H : ℕ
  H = index_words rows (length work)

  here : Spans rows (length work) H
  here = spans rows (length work) small

  heads_small : (b : ℕ) → b < H → get_or work b 0 / 65536 < 65536
  heads_small b l = chains_small (chains (omega arith)) (omega arith) b l

  pub linkable : Linkable (index_words rows (length work)) (count R) work
  linkable = record { fits = spans_fits here; buckets = spans_bucket here; row = λ p. omega (arith, spans_room here p); small = omega arith; heads = heads_small }

  module _ (x : Row) where
    pub enter_front : Front rows work (enter (index_words rows (length work)) (count R) x work)
    enter_front = go (ℕ_discrete H 0)
      where
        go : Dec (H ≡ 0) → Front rows work (enter H (count R) x work)
        go (yes z) = rw (enter_none H (count R) x work z) (front_refl rows work)
        go (no z) = rw (enter_some H (count R) x work z) (record {
          same_length = length_link (bucket H x) (count R) work;
          rest = drop_link H (bucket H x) (count R) work (spans_bucket here (omega arith) x) (omega (arith, spans_room here (omega arith)));
        })

    pub enter_chains : 0 < index_words rows (length (enter (index_words rows (length work)) (count R) x work))
        → Chains (index_words rows (length (enter (index_words rows (length work)) (count R) x work))) (R ▹ x) (enter (index_words rows (length work)) (count R) x work)
    enter_chains p =
        let e = enter_front.same_length in
        let q : 0 < H = rw e at p in
        rw (e, enter_some H (count R) x work (λ z. omega arith))
        (chains_link H R work x (chains q) (spans_bucket here q x) (spans_fits here) (omega (arith, spans_room here q)) (omega arith))

-- the index stands while its words do
pub chains_same : (H : ℕ) (R : Rows) (work work' : List ℕ) → count R ≤ H → ((i : ℕ) → i < H → get_or work' i 0 ≡ get_or work i 0) → Chains H R work → Chains H R work'
chains_same H R work work' h same ch = record {
  heads = λ b l. ap (λ (w : ℕ). w / 65536) (same b l) ∙ ch.heads b l;
  follows = followed_same H R work work' (λ j l. ap (λ (w : ℕ). w % 65536) (same j (omega arith))) ch.follows;
}
