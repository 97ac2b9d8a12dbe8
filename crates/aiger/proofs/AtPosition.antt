-- What each read finds at a position of a text. Assumes nothing.
use Prim.Native.Nat.{ℕ, ◌+◌, ◌*◌, ◌-◌, ◌<◌, ◌≤◌}
use mathlib.Core.Path.{◌≡◌, refl, ap, ◌∙◌}
use mathlib.Core.Bool.{Bool, true, false}
use mathlib.Core.List.{List, [], ◌∷◌}
use native.Mathlib.Numerals.{add-one}
use native.Mathlib.Nat.{le_refl}
use lib.Dec.{eqb, leb}
use borrow.Author.Tests.{le-leb, lt-leb}
use lib.ListN.{take, length, get_or, drop, drop_of_length-le}
use lib.Seq.{drop-cons}
use Rattle.std.specs.List.{list_any}
use Rattle.std.proofs.lemmas.List.{take_rest}
use Rattle.aiger.specs.declared.numbers.Fault.TheVariants.{BadNumber, Other}
use Rattle.aiger.specs.Form.{read, fault, digit, digits, zero_alone, number, space, byte, newline_left}

module _ (s : List ℕ) (at : ℕ) where
  module _ (h : length s ≤ at) where
    pub none_left : drop at s ≡ []
    none_left = drop_of_length-le s h

    pub zero_end : zero_alone (drop at s) ≡ read 0 (drop at s)
    unfolding zero_alone
    zero_end = rw none_left

    pub number_end : number (drop at s) ≡ fault BadNumber
    unfolding number
    number_end = rw none_left

    pub space_end : space (drop at s) ≡ fault BadNumber
    unfolding space
    space_end = rw none_left

    pub byte_end : (b : ℕ) → byte b (drop at s) ≡ fault Other
    unfolding byte
    byte_end b = rw none_left

    pub newline_end : newline_left (drop at s) ≡ false
    unfolding newline_left
    newline_end = rw none_left

    -- the end of the digits may be named by the text's length
    pub digits_all : (n : ℕ) → digits n (drop at s) ≡ read n (drop (length s) s)
    unfolding digits
    digits_all n = rw (none_left, drop_of_length-le s (le_refl (length s)))

  module _ (h : at < length s) where
    pub front : drop at s ≡ get_or s at 0 ∷ drop (at + 1) s
    front = rw (add-one) (drop-cons s at 0 h)

    pub digits_stop : (n : ℕ) → digit (get_or s at 0) ≡ false → digits n (drop at s) ≡ read n (drop at s)
    unfolding digits
    digits_stop n e = rw (front, e)

    pub digits_more : (n : ℕ) → digit (get_or s at 0) ≡ true → leb (n * 10 + (get_or s at 0 - 48)) 65535 ≡ true → digits n (drop at s) ≡ digits (n * 10 + (get_or s at 0 - 48)) (drop (at + 1) s)
    unfolding digits
    digits_more n e l = rw (front, e, l)

    pub digits_big : (n : ℕ) → digit (get_or s at 0) ≡ true → leb (n * 10 + (get_or s at 0 - 48)) 65535 ≡ false → digits n (drop at s) ≡ fault BadNumber
    unfolding digits
    digits_big n e l = rw (front, e, l)

    -- the same by facts in place of tests
    pub digits_within : (n : ℕ) → digit (get_or s at 0) ≡ true → n * 10 + (get_or s at 0 - 48) ≤ 65535 → digits n (drop at s) ≡ digits (n * 10 + (get_or s at 0 - 48)) (drop (at + 1) s)
    digits_within n e l = digits_more n e (le-leb _ _ l)

    pub digits_over : (n : ℕ) → digit (get_or s at 0) ≡ true → 65535 < n * 10 + (get_or s at 0 - 48) → digits n (drop at s) ≡ fault BadNumber
    digits_over n e l = digits_big n e (lt-leb _ _ l)

    pub zero_more : digit (get_or s at 0) ≡ true → zero_alone (drop at s) ≡ fault BadNumber
    unfolding zero_alone
    zero_more e = rw (front, e)

    pub zero_stop : digit (get_or s at 0) ≡ false → zero_alone (drop at s) ≡ read 0 (drop at s)
    unfolding zero_alone
    zero_stop e = rw (front, e)

    pub number_zero : eqb (get_or s at 0) 48 ≡ true → number (drop at s) ≡ zero_alone (drop (at + 1) s)
    unfolding number
    number_zero z = rw (front, z)

    pub number_no : eqb (get_or s at 0) 48 ≡ false → digit (get_or s at 0) ≡ false → number (drop at s) ≡ fault BadNumber
    unfolding number
    number_no z e = rw (front, z, e)

    pub number_on : eqb (get_or s at 0) 48 ≡ false → digit (get_or s at 0) ≡ true → number (drop at s) ≡ digits (get_or s at 0 - 48) (drop (at + 1) s)
    unfolding number
    number_on z e = rw (front, z, e)

    pub space_is : eqb (get_or s at 0) 32 ≡ true → space (drop at s) ≡ read tt (drop (at + 1) s)
    unfolding space
    space_is e = rw (front, e)

    pub space_line : eqb (get_or s at 0) 32 ≡ false → eqb (get_or s at 0) 10 ≡ true → space (drop at s) ≡ fault BadNumber
    unfolding space
    space_line e f = rw (front, e, f)

    pub space_other : eqb (get_or s at 0) 32 ≡ false → eqb (get_or s at 0) 10 ≡ false → space (drop at s) ≡ fault Other
    unfolding space
    space_other e f = rw (front, e, f)

    pub byte_is : (b : ℕ) → eqb (get_or s at 0) b ≡ true → byte b (drop at s) ≡ read tt (drop (at + 1) s)
    unfolding byte
    byte_is b e = rw (front, e)

    pub byte_other : (b : ℕ) → eqb (get_or s at 0) b ≡ false → byte b (drop at s) ≡ fault Other
    unfolding byte
    byte_other b e = rw (front, e)

-- a newline is left where some byte is one
any_newline : (xs : List ℕ) → list_any (λ x. eqb x 10) xs ≡ newline_left xs
unfolding newline_left
any_newline [] = refl
any_newline (x ∷ xs) = rw (any_newline xs)

pub any_from : (s : List ℕ) (from : ℕ) (r : Bool) → r ≡ list_any (λ x. eqb x 10) (take (length s - from) (drop from s)) → r ≡ newline_left (drop from s)
any_from s from r e = e ∙ ap (list_any (λ x. eqb x 10)) (take_rest s from) ∙ any_newline (drop from s)
