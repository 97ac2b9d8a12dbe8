-- The net of every accepted text is `Accepted`. Crates above cite `accepted` and the laws about `Accepted`.
-- Assumes nothing.
use Prim.Native.Nat.{ℕ, zero, suc, ◌+◌, ◌*◌, ◌/◌, ◌%◌, ◌<◌, ◌≤◌}
use mathlib.Core.Path.{◌≡◌, refl, sym, ap, subst, ◌∙◌}
use mathlib.Core.Bool.{Bool, true, false, ◌&&◌, not}
use mathlib.Core.List.{List, [], ◌∷◌, ◌++◌, append-nil}
use native.Mathlib.Omega.{arith}
use native.Mathlib.Nat.{div-add-mod'}
use lib.Dec.{eqb, leb, ltb}
use lib.ListN.{length, get_or, length-append}
use lib.Seq.{append_snoc}
use borrow.Author.Tests.{eqb-true, leb-true, ltb-true}
use Rattle.std.proofs.Common.{if◌then◌else◌}
use Rattle.aiger.specs.Form.{number, line, Gate, gate, Header, header}
use Rattle.aiger.specs.Net.{Got, got, refused, Part, go_on, ◌>>=◌, at_line, on_line, check, defined, fresh, input_lines, output_lines, in_order, rights_defined, lefts, gate_lines, known, Unknown, at, nowhere, unknown_output, all_known, limits, Net, body, circuit}
use Rattle.aiger.specs.Accepted.{New, News, InOrder, GateOk, Chain, Knowns, Accepted, Ascending}
use Rattle.aiger.specs.declared.refusal.Refusal.{Refusal}
use Rattle.aiger.specs.declared.refusal.Refusal.TheVariants.{TooLong, Limits, Literal, Order}
use Rattle.aiger.proofs.Bools.{split_and}
use Rattle.aiger.proofs.WholeNet.{Within, within}

-- from tests to facts

not-true : (b : Bool) → not b ≡ true → b ≡ false
not-true false e = refl
not-true true e = sym e

new : (M : ℕ) (ls : List ℕ) (l : ℕ) → fresh M ls l ≡ true → New M ls l
new M ls l e =
    let p = split_and (eqb (l % 2) 0 && leb 2 l && leb l (2 * M + 1)) (not (defined ls (l / 2))) e in
    let q = split_and (eqb (l % 2) 0 && leb 2 l) (leb l (2 * M + 1)) p.0 in
    let r = split_and (eqb (l % 2) 0) (leb 2 l) q.0 in
    record {
      even = eqb-true (l % 2) 0 r.0;
      low = leb-true 2 l r.1;
      high = leb-true l (2 * M + 1) q.1;
      undefined = not-true (defined ls (l / 2)) p.1;
    }

pub in_order_lem : (p : ℕ) (g : Gate) → in_order p g ≡ true → InOrder p g
in_order_lem p g e =
    let o = split_and (ltb p g.left && ltb (g.right0 / 2) (g.left / 2)) (ltb (g.right1 / 2) (g.left / 2)) e in
    let q = split_and (ltb p g.left) (ltb (g.right0 / 2) (g.left / 2)) o.0 in
    record {
      above = ltb-true p g.left q.0;
      below0 = ltb-true (g.right0 / 2) (g.left / 2) q.1;
      below1 = ltb-true (g.right1 / 2) (g.left / 2) o.1;
    }

gate_ok : (M : ℕ) (ls : List ℕ) (p : ℕ) (g : Gate) → fresh M ls g.left ≡ true → in_order p g ≡ true → rights_defined ls g ≡ true → GateOk M ls p g
gate_ok M ls p g f o d =
    let q = split_and (defined ls (g.right0 / 2)) (defined ls (g.right1 / 2)) d in
    record { new = new M ls g.left f; order = in_order_lem p g o; defined0 = q.0; defined1 = q.1 }

-- a part and the next, where both give something

record Both {A B : Type 0} (r : Got A) (f : A → Part B) (x : B) (rest : List ℕ) : Type 0 where
  value : A
  left : List ℕ
  first : r ≡ got value left
  next : f value left ≡ got x rest

both : {A B : Type 0} (r : Got A) (f : A → Part B) (x : B) (rest : List ℕ) → go_on r f ≡ got x rest → Both r f x rest
both (got a u) f x rest e = record { value = a; left = u; first = refl; next = e }
both (refused w) f x rest e = absurd (let y : ◌≡◌ {A = ℕ} 0 1 = cc in omega arith)

passed : {B : Type 0} (t : Bool) (w : Refusal) (f : Unit {0} → Part B) (u : List ℕ) (x : B) (rest : List ℕ) → go_on (check t w u) f ≡ got x rest → (t ≡ true) × (f tt u ≡ got x rest)
passed true w f u x rest e = (refl, e)
passed false w f u x rest e = absurd (let y : ◌≡◌ {A = ℕ} 0 1 = cc in omega arith)

-- the input lines

record InputsOk (M : ℕ) (ls : List ℕ) (k : ℕ) (out : List ℕ) : Type 0 where
  more : List ℕ
  is : out ≡ ls ++ more
  count : length more ≡ k
  news : News M ls more

inputs_ok : (M k : ℕ) (ls t out rest : List ℕ) → input_lines M k ls t ≡ got out rest → InputsOk M ls k out
unfolding input_lines News
inputs_ok M zero ls t out rest e = record { more = []; is = rw append-nil (let q : ls ≡ out = cc in sym q); count = refl; news = tt }
inputs_ok M (suc k) ls t out rest e =
    let b = both (at_line (2 + length ls) (line number t)) (λ l. check (fresh M ls l) (Literal (2 + length ls)) >>= (λ ok. input_lines M k (ls ++ l ∷ []))) out rest e in
    let c = passed (fresh M ls b.value) (Literal (2 + length ls)) (λ ok. input_lines M k (ls ++ b.value ∷ [])) b.left out rest b.next in
    let j = inputs_ok M k (ls ++ b.value ∷ []) b.left out rest c.1 in
    record { more = b.value ∷ j.more; is = j.is ∙ append_snoc ls b.value j.more; count = ap suc j.count; news = (new M ls b.value c.0, j.news) }

outputs_ok : (n k : ℕ) (ls t out rest : List ℕ) → output_lines n k ls t ≡ got out rest → length out ≡ length ls + k
unfolding output_lines
outputs_ok n zero ls t out rest e = let q : ls ≡ out = cc in omega (arith, ap length q)
outputs_ok n (suc k) ls t out rest e =
    let b = both (at_line (n + length ls) (line number t)) (λ l. output_lines n k (ls ++ l ∷ [])) out rest e in
    omega (arith, outputs_ok n k (ls ++ b.value ∷ []) b.left out rest b.next, length-append ls (b.value ∷ []))

-- the gate lines

record GatesOk (M : ℕ) (ls : List ℕ) (p : ℕ) (gs : List Gate) (k : ℕ) (out : List Gate) : Type 0 where
  more : List Gate
  is : out ≡ gs ++ more
  count : length more ≡ k
  chain : Chain M ls p gs more

-- what `gate_lines` does after the form, after the left, and after the order
module _ (M n : ℕ) (ls : List ℕ) (p k : ℕ) (gs : List Gate) (g : Gate) where
  abbrev by_rights : Unit {0} → Part (List Gate)
  by_rights up = check (rights_defined (ls ++ lefts gs) g) (Literal (n + length gs)) >>= (λ by. gate_lines M n ls g.left k (gs ++ g ∷ []))

  abbrev by_order : Unit {0} → Part (List Gate)
  by_order ok = check (in_order p g) (Order (n + length gs)) >>= by_rights

  abbrev by_left : Part (List Gate)
  by_left = check (fresh M (ls ++ lefts gs) g.left) (Literal (n + length gs)) >>= by_order

gates_ok : (M n : ℕ) (ls : List ℕ) (p k : ℕ) (gs : List Gate) (t : List ℕ) (out : List Gate) (rest : List ℕ) → gate_lines M n ls p k gs t ≡ got out rest → GatesOk M ls p gs k out
unfolding gate_lines Chain
gates_ok M n ls p zero gs t out rest e = record { more = []; is = rw append-nil (let q : gs ≡ out = cc in sym q); count = refl; chain = tt }
gates_ok M n ls p (suc k) gs t out rest e =
    let a = both (at_line (n + length gs) (line gate t)) (by_left M n ls p k gs) out rest e in
    let b = passed (fresh M (ls ++ lefts gs) a.value.left) (Literal (n + length gs)) (by_order M n ls p k gs a.value) a.left out rest a.next in
    let c = passed (in_order p a.value) (Order (n + length gs)) (by_rights M n ls p k gs a.value) a.left out rest b.1 in
    let d = passed (rights_defined (ls ++ lefts gs) a.value) (Literal (n + length gs)) (λ by. gate_lines M n ls a.value.left k (gs ++ a.value ∷ [])) a.left out rest c.1 in
    let j = gates_ok M n ls a.value.left k (gs ++ a.value ∷ []) a.left out rest d.1 in
    record {
      more = a.value ∷ j.more;
      is = j.is ∙ append_snoc gs a.value j.more;
      count = ap suc j.count;
      chain = (gate_ok M (ls ++ lefts gs) p a.value b.0 c.0 d.0, j.chain);
    }

-- the outputs

by_known : (M : ℕ) (ls : List ℕ) (n o : ℕ) (os : List ℕ) → (unknown_output M ls (n + 1) os ≡ nowhere → Knowns M ls os)
    → (t : Bool) → known M ls o ≡ t → (if t then unknown_output M ls (n + 1) os else at n) ≡ nowhere → Knowns M ls (o ∷ os)
unfolding Knowns
by_known M ls n o os ih true q r =
    let p = split_and (leb o (2 * M + 1)) (defined ls (o / 2)) q in
    (leb-true o (2 * M + 1) p.0, (p.1, ih r))
by_known M ls n o os ih false q r = absurd (let y : ◌≡◌ {A = ℕ} 0 1 = cc in omega arith)

knowns : (M : ℕ) (ls : List ℕ) (n : ℕ) (os : List ℕ) → unknown_output M ls n os ≡ nowhere → Knowns M ls os
unfolding unknown_output Knowns
knowns M ls n [] e = tt
knowns M ls n (o ∷ os) e = by_known M ls n o os (knowns M ls (n + 1) os) (known M ls o) refl e

all_known_lem : (u : Unknown) (t : List ℕ) (x : Unit {0}) (rest : List ℕ) → all_known u t ≡ got x rest → u ≡ nowhere
all_known_lem nowhere t x rest e = refl
all_known_lem (at n) t x rest e = absurd (let y : ◌≡◌ {A = ℕ} 0 1 = cc in omega arith)

-- the whole text

module _ (h : Header) where
  abbrev to_net : List ℕ → List ℕ → List Gate → Unit {0} → Part Net
  to_net is os gs ok = got (record { M = h.M; inputs = is; outputs = os; gates = gs })

  abbrev to_outputs : List ℕ → List ℕ → List Gate → Part Net
  to_outputs is os gs = all_known (unknown_output h.M (is ++ lefts gs) (h.I + 2) os) >>= to_net is os gs

  abbrev to_gates : List ℕ → List ℕ → Part Net
  to_gates is os = gate_lines h.M (h.I + h.O + 2) is 0 h.A [] >>= to_outputs is os

  abbrev to_output_lines : List ℕ → Part Net
  to_output_lines is = output_lines (h.I + 2) h.O [] >>= to_gates is

  pub body_ok : (t : List ℕ) (net : Net) (rest : List ℕ) → Within h → body h t ≡ got net rest → Accepted net
  unfolding body
  body_ok t net rest w e =
      let a = both (input_lines h.M h.I [] t) to_output_lines net rest e in
      let b = both (output_lines (h.I + 2) h.O [] a.left) (to_gates a.value) net rest a.next in
      let c = both (gate_lines h.M (h.I + h.O + 2) a.value 0 h.A [] b.left) (to_outputs a.value b.value) net rest b.next in
      let u : Unknown = unknown_output h.M (a.value ++ lefts c.value) (h.I + 2) b.value in
      let d = both (all_known u c.left) (to_net a.value b.value c.value) net rest c.next in
      let i = inputs_ok h.M h.I [] t a.value a.left a.first in
      let o = outputs_ok (h.I + 2) h.O [] a.left b.value b.left b.first in
      let g = gates_ok h.M (h.I + h.O + 2) a.value 0 h.A [] b.left c.value c.left c.first in
      let k = knowns h.M (a.value ++ lefts c.value) (h.I + 2) b.value (all_known_lem u c.left d.value d.left d.first) in
      let q : record { M = h.M; inputs = a.value; outputs = b.value; gates = c.value } ≡ net = cc d.next in
      subst Accepted q record {
        vars = w.vars;
        outs = omega (arith, w.outs, o);
        room = omega (arith, w.sum, i.count, g.count, ap length i.is, ap length g.is);
        inputs_new = rw i.is i.news;
        gates_chain = rw g.is g.chain;
        outputs_known = k;
      }

pub accepted : (text : List ℕ) (net : Net) (rest : List ℕ) → circuit text ≡ got net rest → Accepted net
unfolding circuit
accepted text net rest e =
    let a = passed (leb (length text) 32768) TooLong (λ short. on_line 1 header >>= (λ h. check (limits h) Limits >>= (λ small. body h))) text net rest e in
    let b = both (on_line 1 header text) (λ h. check (limits h) Limits >>= (λ small. body h)) net rest a.1 in
    let c = passed (limits b.value) Limits (λ small. body b.value) b.left net rest b.next in
    body_ok b.value b.left net rest (within b.value c.0) c.1

halves : (a b : ℕ) → a % 2 ≡ 0 → b % 2 ≡ 0 → a < b → a / 2 < b / 2
halves a b p q h = omega (arith, div-add-mod' a 2, div-add-mod' b 2)

ascending : (M : ℕ) (ls : List ℕ) (p : ℕ) (gs more : List Gate) → p % 2 ≡ 0 → Chain M ls p gs more → Ascending M (p / 2) more
unfolding Chain Ascending
ascending M ls p gs [] e c = tt
ascending M ls p gs (g ∷ more) e c =
    let o = c.0 in
    (halves p g.left e o.new.even o.order.above, (omega (arith, o.new.high), (o.order.below0, (o.order.below1, ascending M ls g.left (gs ++ g ∷ []) more o.new.even c.1))))

pub gates_ascending : {net : Net} → Accepted net → Ascending net.M 0 net.gates
gates_ascending {net} a = ascending net.M net.inputs 0 [] net.gates refl a.gates_chain

-- the inputs are literals of ring variables
pub inputs_at : (M : ℕ) (ls more : List ℕ) → News M ls more → (i : ℕ) → i < length more → (2 ≤ get_or more i 0) × (get_or more i 0 ≤ 2 * M + 1)
unfolding News
inputs_at M ls [] n i h = absurd (omega arith)
inputs_at M ls (l ∷ more) n zero h = (n.0.low, n.0.high)
inputs_at M ls (l ∷ more) n (suc i) h = inputs_at M (ls ++ l ∷ []) more n.1 i (omega arith)
