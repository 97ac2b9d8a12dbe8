use Prim.Native.Nat.{ℕ}
use Rattle.std.proofs.Common.{◌≡◌, refl}
use Rattle.std.proofs.lemmas.List.Elements.{All-replicate}
use Rattle.aiger.specs.declared.lines.Gate.{Gate}
use Rattle.aiger.specs.declared.lines.Lit.{Lit}
use Rattle.aiger.proofs.net.Places.new.Goals as goal

abbrev zero : Lit
zero = record { 0 = 0 }

pub returns-clause-inputs : goal.returns-clause-inputs
returns-clause-inputs c = All-replicate (λ (l : Lit). ◌≡◌ {A = ℕ} l.0 0) 1024 zero refl

pub returns-clause-outputs : goal.returns-clause-outputs
returns-clause-outputs c = All-replicate (λ (l : Lit). ◌≡◌ {A = ℕ} l.0 0) 1024 zero refl

pub returns-clause-gates : goal.returns-clause-gates
returns-clause-gates c = All-replicate (λ (g : Gate). ◌≡◌ {A = ℕ} g.left.0 0) 1024 (record { left = zero; right0 = zero; right1 = zero }) refl
