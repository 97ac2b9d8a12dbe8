-- Remembered results, in the words behind the index: a word is 0, or holds an operation, its two operands and its result.
-- Assumes nothing: these are definitions.
use Rattle.std.specs.Prelude.{ℕ, ◌+◌, ◌*◌, ◌-◌, ◌/◌, ◌%◌, ◌<◌, ◌≤◌, ◌≡◌, cond, List, length, get_or, drop, eqb, leb, ltb, Option, Some, None}
use Rattle.steps.specs.Rows.{Rows, next}
use Rattle.steps.specs.Steps.{Steps, answer, sum, product, normal}
use Rattle.steps.specs.Table.{Slices, rows_of}
use Rattle.steps.specs.Sound.{Sound}
use Rattle.table.specs.declared.Row.{Row as Number}
use Rattle.table.specs.declared.memory.Operation.{Operation}
use Rattle.table.specs.declared.memory.Operation.TheVariants.{Sum, Product, NormalForm}
use Rattle.table.specs.Lent.{room}
use Rattle.table.specs.Index.{index_words, Indexed}

-- how many words remember results, of so many behind the index: as many as a table of R rows profits from
unfoldable pub memory_size : ℕ → ℕ → ℕ
memory_size R free =
    cond (ltb free 128) 0
    (cond (ltb free 2048) 128
    (cond (leb R 64) 128
    (cond (ltb free 16384) 2048
    (cond (leb R 1024) 2048 16384))))

-- the sizes that a memory can have
pub data Size : ℕ → Type 0 where
  large : Size 16384
  middle : Size 2048
  least : Size 128

-- where the remembered results end, in a working slice of L words
unfoldable pub reach : ℕ → ℕ → ℕ
reach R L = index_words R L + memory_size R (L - index_words R L)

-- the operations: 1 is the sum, 2 the product, 3 the normal form
unfoldable pub steps_of : ℕ → ℕ → ℕ → ℕ → Steps
steps_of N op f g = cond (eqb op 1) (sum N f g) (cond (eqb op 2) (product N f g) (normal N f g))

-- the same of the code's operations
abbrev pub code_of : Operation → ℕ
code_of Sum = 1
code_of Product = 2
code_of NormalForm = 3

-- the key of an operation on f and g; no operation is 0, so that no key is that of a zero
abbrev pub key_of : ℕ → ℕ → ℕ → ℕ
key_of op f g = (op * 65536 + f) * 65536 + g

-- the steps of op on f and g append nothing to the rows and answer k
pub record Remembered (N : ℕ) (R : Rows) (op f g k : ℕ) : Type 0 where
  pub left : f < next R
  pub right : g < next R
  pub system : op ≡ 3 → g ≡ 0 → ⊥
  pub is : steps_of N op f g R ≡ answer k R

-- each word of the memory that has a key has its result
pub record Words (N from to : ℕ) (R : Rows) (work : List ℕ) : Type 0 where
  pub each : (i op f g : ℕ) → from ≤ i → i < to → 0 < op → op < 4 → f < 65536 → g < 65536 → get_or work i 0 / 65536 ≡ key_of op f g
      → Remembered N R op f g (get_or work i 0 % 65536)

-- WHAT THE INNER FUNCTIONS ASK AND KEEP: a lent, sound table of c rows in use, and a working slice that remembers nothing but what is so
pub record Live (N c : ℕ) (s : Slices) (work : List ℕ) : Type 0 where
  pub sound : Sound N (rows_of s c)
  pub indexed : Indexed c s work
  pub words : Words N (index_words (room s) (length work)) (reach (room s) (length work)) (rows_of s c) work

-- i is a word of the memory of a table of R rows, or none of the L words at all: nothing is remembered there
pub record Place (R L i : ℕ) : Type 0 where
  pub inside : i < L → (index_words R L ≤ i) × (i < reach R L)

-- the word i has the key, and the result k
pub record Stands (work : List ℕ) (i key k : ℕ) : Type 0 where
  pub there : i < length work
  pub has_key : get_or work i 0 / 65536 ≡ key
  pub has_result : get_or work i 0 % 65536 ≡ k

abbrev pub Recalls : Option Number → List ℕ → ℕ → ℕ → Type 0
Recalls (Some k) work i key = Stands work i key k.0
Recalls None work i key = Unit {0}

-- nothing but the index and the memory has changed, in a table of R rows
pub record Behind (R : ℕ) (work work' : List ℕ) : Type 0 where
  pub same_length : length work' ≡ length work
  pub rest : drop (reach R (length work)) work' ≡ drop (reach R (length work)) work
