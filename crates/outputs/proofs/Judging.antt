-- The system of a net, and its outputs.
use Prim.Native.Nat.{ℕ, zero, suc, ◌+◌, ◌*◌, ◌<◌, ◌≤◌}
use mathlib.Core.Path.{◌≡◌, refl, sym, ap, ◌∙◌}
use mathlib.Core.List.{List}
use native.Mathlib.Omega.{arith}
use lib.ListN.{length, get_or, take, length-map}
use lib.Seq.{take_all}
use Rattle.steps.specs.Room.{Ending, made, full, within}
use Rattle.steps.specs.Rows.{Rows}
use Rattle.steps.specs.Sound.{Sound}
use Rattle.steps.specs.Steps.{Answer, answer}
use Rattle.steps.specs.Table.{Slices, rows_of}
use Rattle.steps.proofs.Table.{rows_of_next, rows_of_none}
use Rattle.table.specs.Made.{Made, At, Full}
use Rattle.table.specs.Inner.{Kept}
use Rattle.table.specs.Lent.{room, Lent}
use Rattle.table.specs.Memory.{Live}
use Rattle.table.proofs.Takes.{taken_rows, taken_full, taken_lends}
use Rattle.leads.specs.Inner.{System}
use Rattle.aiger.specs.Answers.{sizes_of, literals_in}
use Rattle.aiger.specs.declared.lines.Lit.{Lit}
use Rattle.endings.proofs.Patterns.{literal_at}
use Rattle.aiger.specs.Circuit.{circuit_of}
use Rattle.aiger.specs.Net as net
use Rattle.aiger.specs.declared.net.Net.{Net}
use Rattle.aiger.proofs.Accepted.{inputs_at, gates_ascending}
use Rattle.aiger.proofs.WholeNet.{Within, within as within_limits}
use Rattle.verdicts.specs.Calls.{end_with}
use Rattle.verdicts.specs.Systems.{build, output_steps}
use Rattle.verdicts.specs.Verdicts.{judged, verdict_of, output_rows, room_out}
use Rattle.verdicts.proofs.Building.{whole_system, keeps_reduce}
use Rattle.verdicts.proofs.Inputs.{output_low}
use Rattle.gates.specs.Inner.{BuildAsked}
use Rattle.endings.specs.Answers.{Judged}
use Rattle.outputs.specs.Inner.{Builds, output_from, ending_answer, ending_pattern, FromAsked, Ended, OutputOf, JudgedAs}

-- a net, and a table for it
module _ (s : Slices) (n : Net) (a : Lent 0 s) where
  limits_hold : Within (sizes_of n.sizes)
  limits_hold = within_limits (sizes_of n.sizes) n.small

  pub vars_few : n.sizes.vars ≤ 1024
  vars_few = limits_hold.vars

  pub build_asks : (work : List ℕ) → Live n.sizes.vars 0 s work → BuildAsked n.sizes.vars 0 s work (circuit_of n).gates
  build_asks work live = record { none = refl; live = live; order = gates_ascending n.accepted }

  pub builds : (r : Made) (s₁ : Slices) (work work₁ : List ℕ) → Kept n.sizes.vars (build n.sizes.vars (circuit_of n).gates 1) r 0 s s₁ work work₁ → Builds r s s₁ n
  builds (At F c) s₁ work work₁ k = record {
    same_room = k.taken.vars;
    built = record {
      lent = taken_lends a k.taken;
      fits = omega (arith, k.taken.rest.fits, k.taken.vars);
      system = ap (build n.sizes.vars (circuit_of n).gates 1) (sym (rows_of_none s)) ∙ taken_rows k.taken;
    };
  }
  builds Full s₁ work work₁ k = record { same_room = k.taken.vars; built = no_room }
    where
      no_room : (o : ℕ) → verdict_of (circuit_of n) (room s₁) o ≡ room_out
      no_room o =
          let l = get_or (circuit_of n).outputs o 0 in
          let t = taken_full (output_from n.sizes.vars l) (keeps_reduce n.sizes.vars l) k.taken in
          let e : within (room s₁) (output_rows (circuit_of n) o) ≡ full = ap (λ (m : ℕ). within m (output_rows (circuit_of n) o)) k.taken.vars ∙ ap (λ (R : Rows). within (room s) (output_steps n.sizes.vars (circuit_of n).gates l R)) (sym (rows_of_none s)) ∙ t.is in
          ap (judged (circuit_of n)) e

-- what an ending stands for is what the call's definition makes of it
module _ (net : net.Net) (s : Slices) (p : List ℕ) where
  same_answer : (e : Ending) → (end_with (judged net e) s p).answer ≡ ending_answer e
  same_answer (made zero R) = refl
  same_answer (made (suc k) R) = refl
  same_answer full = refl

  same_pattern : (e : Ending) → (end_with (judged net e) s p).pattern ≡ ending_pattern e net.M net.inputs p
  same_pattern (made zero R) = refl
  same_pattern (made (suc k) R) = refl
  same_pattern full = refl

-- an output of the net whose system stands in the table
module _ (s : Slices) (n : Net) (c F o I : ℕ) (a : OutputOf s n c F o I) where
  abbrev circuit : net.Net
  circuit = circuit_of n

  w : Within (sizes_of n.sizes)
  w = limits_hold s n a.built.lent

  pub judge_lent : Lent c s
  judge_lent = let b = a.built.lent in record { used = a.built.fits; small = b.small; thens = b.thens; elses = b.elses }

  pub judge_few : n.sizes.vars ≤ 1024
  judge_few = w.vars

  whole_is : answer (whole_system n.sizes.vars circuit.gates (gates_ascending n.accepted)).num (whole_system n.sizes.vars circuit.gates (gates_ascending n.accepted)).rows ≡ answer F (rows_of s c)
  whole_is = sym (whole_system n.sizes.vars circuit.gates (gates_ascending n.accepted)).runs ∙ a.built.system

  pub judge_sound : Sound n.sizes.vars (rows_of s c)
  judge_sound = rw (ap (λ (y : Answer). y.rows) whole_is) at (whole_system n.sizes.vars circuit.gates (gates_ascending n.accepted)).sound

  system_there : System c F
  system_there =
      let y = rw (ap (λ (y : Answer). y.num) whole_is, ap (λ (y : Answer). y.rows) whole_is) at (whole_system n.sizes.vars circuit.gates (gates_ascending n.accepted)).sys in
      record { used = omega (arith, y.used, rows_of_next s c); not_0 = y.not_0 }

  -- the inputs and the outputs, as they stand in the net
  module _ (ins outs : List Lit) (ins_are : literals_in ins ≡ circuit.inputs) (ins_counted : length ins ≡ n.sizes.inputs)
      (outs_are : literals_in outs ≡ circuit.outputs) (outs_counted : length outs ≡ n.sizes.outputs) where
    abbrev l : ℕ
    l = (get_or outs o (record { 0 = 0 })).0

    ins_long : length (literals_in ins) ≡ I
    ins_long = length-map ins (λ x. x.0) ∙ ins_counted ∙ sym a.long

    outs_long : length circuit.outputs ≡ n.sizes.outputs
    outs_long = ap length (sym outs_are) ∙ length-map outs (λ x. x.0) ∙ outs_counted

    is : l ≡ get_or circuit.outputs o 0
    is = sym (literal_at outs o) ∙ ap (λ (ls : List ℕ). get_or ls o 0) outs_are

    input_in : (i : ℕ) → i < I → (2 ≤ get_or (literals_in ins) i 0) × (get_or (literals_in ins) i 0 ≤ 2 * n.sizes.vars + 1)
    input_in i g = rw ins_are (inputs_at n.sizes.vars _ circuit.inputs n.accepted.inputs_new i (omega (arith, ins_long, ap length ins_are)))

    pub from_asked : (work : List ℕ) → Live n.sizes.vars c s work → FromAsked n.sizes.vars c s work l F (literals_in ins) I
    from_asked work live = record {
      live = live;
      low = rw is (output_low n.accepted o (omega (arith, outs_long, a.there)));
      system = system_there;
      vars = w.vars;
      long = omega (arith, ins_long);
      positive = λ i g. omega (arith, (input_in i g).0);
      inputs_low = λ i g. omega (arith, (input_in i g).1);
    }

    pub judged_as : (p : List ℕ) → length p ≡ I → {r : Judged} {s' : Slices} {p' : List ℕ}
        → Ended (output_from n.sizes.vars l F) n.sizes.vars (take (length p) (literals_in ins)) r c s s' p p' → JudgedAs (circuit_of n) o r c s s' p p'
    judged_as p q e = record {
      answer = same_answer circuit s p (within (room s) (output_rows circuit o)) ∙ ap ending_answer ending_is ∙ e.answer;
      pattern = same_pattern circuit s p (within (room s) (output_rows circuit o)) ∙ ap (λ (y : Ending). ending_pattern y n.sizes.vars circuit.inputs p) ending_is
          ∙ ap (λ (ls : List ℕ). ending_pattern (within (room s) (output_from n.sizes.vars l F (rows_of s c))) n.sizes.vars ls p) (sym all_taken) ∙ e.pattern;
      stays = e.stays;
    }
      where
        rows_are : output_rows circuit o ≡ output_from n.sizes.vars l F (rows_of s c)
        rows_are = ap (λ (y : Answer). output_from n.sizes.vars (get_or circuit.outputs o 0) y.num y.rows) a.built.system ∙ ap (λ (i : ℕ). output_from n.sizes.vars i F (rows_of s c)) (sym is)

        ending_is : within (room s) (output_rows circuit o) ≡ within (room s) (output_from n.sizes.vars l F (rows_of s c))
        ending_is = ap (within (room s)) rows_are

        all_taken : take (length p) (literals_in ins) ≡ circuit.inputs
        all_taken = take_all (length p) (literals_in ins) (omega (arith, q, ins_long)) ∙ ins_are
