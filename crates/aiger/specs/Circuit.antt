-- The circuit that a net holds, and what reading a text gives.
-- Assumes nothing: these are definitions.
use Rattle.std.specs.Prelude.{ℕ, List, drop, Result, Ok, Err}
use Rattle.aiger.specs.Net as net
use Rattle.aiger.specs.Net.{Got, got, refused}
use Rattle.aiger.specs.Answers.{net_in}
use Rattle.aiger.specs.declared.net.Net.{Net}
use Rattle.aiger.specs.declared.refusal.Refusal.{Refusal}

abbrev pub circuit_of : Net → net.Net
circuit_of n = net_in n.sizes n.input_places.now n.output_places.now n.gate_places.now

-- a net with the position behind its last gate line, or the refusal
abbrev pub net_of : List ℕ → Result (Net × ℕ) Refusal → Got net.Net
net_of s (Ok r) = got (circuit_of r.0) (drop r.1 s)
net_of s (Err w) = refused w
