-- What `exec` answers of a built image is what `run` answers of its program.
use Rattle.std.proofs.Common.{◌≡◌, ◌↔◌, inl, inr, sym, subst, ℕ, ◌≤◌, List, length, Option, Some, ℤ, arith}
use Rattle.psy_base.specs.declared.limits.TheConstants.{FILE_BYTES}
use Rattle.psy_base.specs.declared.sizes.Sizes.{Sizes}
use Rattle.psy_base.specs.declared.ways.Ways.{Ways}
use Rattle.psy_code.specs.declared.code.Code.{Code as Coded}
use Rattle.psy_door.specs.Files.{Files, bytes_under}
use Rattle.psy_flow.specs.Agents.{IsAgentOf}
use Rattle.psy_flow.specs.CodeLists.{AreCodePaths}
use Rattle.psy_flow.specs.declared.paths.Paths.{Paths}
use Rattle.psy_flow.specs.Verified.{IsFault, IsVerified}
use Rattle.psy_gen.specs.Emission.{code_of}
use Rattle.psy_gen.specs.SameWays.{ArePathsOf, HasSameWays, SendsOutsideLoops}
use Rattle.psy_graph.specs.declared.fault.GraphFault.{GraphFault}
use Rattle.psy_graph.specs.declared.graph.Graph.{Graph}
use Rattle.psy_graph.specs.Graphs.{AreGraphs, AreGraphsBy, IsCause, IsCauseBy}
use Rattle.psy_history.specs.Compiled.{AreInputs}
use Rattle.psy_image.specs.Answers.{IsBadAt, emptied, image_of}
use Rattle.psy_image.specs.declared.image.Image.{Image as CodeImage}
use Rattle.psy_image.specs.Images.{spells_image}
use Rattle.psy_meaning.specs.Alike.{ActsAlike}
use Rattle.psy_meaning.specs.BufferSizes.{AreSizes}
use Rattle.psy_meaning.specs.Flow.{AreAllNexts, IsMostSends}
use Rattle.psy_meaning.specs.KnownWays.{Listed, OfText}
use Rattle.psy_meaning.specs.ListedWays.{AreWaysOf}
use Rattle.psy_meaning.specs.Units.{IsOfText}
use Rattle.psy_plan.specs.Programs.{IsProgram}
use Rattle.psy_plan.specs.Supplies as supplies
use Rattle.psy_plan.specs.Supplies.{IsSupply, Supply}
use Rattle.psy_run.specs.Answer.{Answers, compiling, executing, refused, running, served, serving}
use Rattle.psy_run.specs.Asked.{Asks, Command, Exec, Run}
use Rattle.psy_run.specs.Courses.{in_row}
use Rattle.psy_run.specs.declared.refusal.Refusal.{Refusal}
use Rattle.psy_run.specs.declared.refusal.Refusal.TheVariants.{Code, Image}
use Rattle.psy_run.specs.Services.{Service, text_of}
use Rattle.psy_run.specs.Steps.{IsUnspelled, IsUnverified, imaging}
use Rattle.psy_script.specs.Inputs.{AreListsOf}
use Rattle.psy_sizes.specs.declared.fault.SizeFault.{SizeFault}
use Rattle.psy_sizes.specs.Faults.{CanCount, IsFaultBy}
use Rattle.psy_tree.specs.declared.unit.AgentDecl.{AgentDecl}
use Rattle.psy_tree.specs.declared.unit.Unit.{Unit as Whole}
use Rattle.psy_verify.specs.Fits.{IsChecked}
use Rattle.psy_same.proofs.Asking.{one_command}
use Rattle.psy_same.proofs.Supplies.{AreStated}
use Rattle.psy_same.proofs.Tails.{exec_tail, tail_gives, tail_stops}
use Rattle.psy_same.proofs.Texts.{ActAlike}
use Rattle.psy_same.proofs.Ways.{emptied_ways, ways_of}

-- What the laws say of programs, of their code and of images
pub record LawsHold : Type 0 where
  pub of_text : (bytes : List ℕ) (unit : Whole) → length bytes ≤ FILE_BYTES → IsProgram bytes unit → IsOfText unit
  pub image : (bytes : List ℕ) (it other : CodeImage) → spells_image it bytes → spells_image other bytes → it ≡ other
  pub not_bad : (bytes : List ℕ) (it : CodeImage) (place : ℕ) → spells_image it bytes → IsBadAt bytes place → ⊥
  pub verified : (unit : Whole) → IsOfText unit → IsVerified unit (code_of unit)
  pub emptied_too : (unit : Whole) (code : Coded) → IsVerified unit code → IsVerified (emptied unit) code
  pub no_fault : (unit : Whole) (code : Coded) (number place : ℕ) → IsVerified unit code → IsFault unit code number place → ⊥
  pub acts : (unit : Whole) → IsOfText unit → ActsAlike unit (code_of unit)
  pub ways : (unit : Whole) → IsOfText unit → HasSameWays unit (code_of unit)
  pub paths : (unit : Whole) (code : Coded) (paths : Paths) → HasSameWays unit code → AreCodePaths unit code paths → ArePathsOf unit paths
  pub mosts : (unit : Whole) (number : ℕ) (agent : AgentDecl) (from to stream : ℕ) → IsAgentOf unit number agent
      → (n : ℕ) × IsMostSends unit.functions agent from to stream n
  pub graphs : (unit : Whole) (nexts : List (List (List ℕ))) (graphs : List Graph) → AreAllNexts unit nexts
      → AreGraphs unit graphs ↔ AreGraphsBy unit nexts graphs
  pub causes : (unit : Whole) (nexts : List (List (List ℕ))) (fault : GraphFault) → AreAllNexts unit nexts → IsCauseBy unit nexts fault → IsCause unit fault
  pub sizes : (unit : Whole) (ways : Ways) (sizes : Sizes) → IsOfText unit → AreWaysOf unit ways
      → AreSizes unit (Listed ways) ways.nexts sizes ↔ AreSizes unit (OfText unit) ways.nexts sizes
  pub counted : (unit : Whole) (ways : Ways) → IsOfText unit → AreWaysOf unit ways
      → CanCount unit (Listed ways) ways.nexts → CanCount unit (OfText unit) ways.nexts
  pub faults : (unit : Whole) (ways : Ways) (fault : SizeFault) → IsOfText unit → AreWaysOf unit ways → IsFaultBy unit (Listed ways) ways.nexts fault
      → IsFaultBy unit (OfText unit) ways.nexts fault
  pub supplied : (unit : Whole) (until : ℕ) (supply : Supply) → IsOfText unit → (supplies.supplying unit until).gives supply → IsSupply unit until supply
  pub inputs : (unit : Whole) (text : List ℕ) (lists : List (List ℤ)) → AreListsOf unit text lists → AreInputs unit lists
  pub histories : ActAlike

module _ (laws : LawsHold) (files : Files) (program image : List ℕ) (until : ℕ) (inputs script : Option (List ℕ)) (unit : Whole) where
  -- The program of a file is one of a text.
  is_of_text : (compiling (Some files) program).gives unit → IsOfText unit
  unfolding in_row
  is_of_text (bytes, (short, is), its) = laws.of_text bytes unit short its

  module _ (compiled : (compiling (Some files) program).gives unit) (silent : SendsOutsideLoops unit)
      (imaged : (imaging unit).gives (bytes_under files image)) where
    abbrev its_image : CodeImage
    its_image = image_of unit (code_of unit)

    text : IsOfText unit
    text = is_of_text compiled

    is_verified : IsVerified (emptied unit) (code_of unit)
    is_verified = laws.emptied_too unit (code_of unit) (laws.verified unit text)

    -- By the lists of its code's ways all is as by its statements.
    are_stated : (ways : Ways) → IsChecked (emptied unit) (code_of unit) ways → AreStated unit ways
    are_stated ways checked =
        let same = laws.ways unit text in
        let are = ways_of unit (code_of unit) same silent (λ number agent from to stream got. laws.mosts unit number agent from to stream (text, got)) ways
        (emptied_ways unit (code_of unit) ways checked.ways) (λ paths coded. laws.paths unit (code_of unit) paths same coded) in
        record {
          followed = are.nexts;
          graphs = λ graphs by. (laws.graphs unit ways.nexts graphs are.nexts).1 by;
          causes = λ fault by. laws.causes unit ways.nexts fault are.nexts by;
          sizes = λ sizes by. (laws.sizes unit ways sizes text are).0 by;
          counted = laws.counted unit ways text are;
          faults = λ fault by. laws.faults unit ways fault text are by;
        }

    -- ---- what is read of the image

    is_image : (bytes : List ℕ) (it : CodeImage) → bytes ≡ bytes_under files image → spells_image it bytes → it ≡ its_image
    is_image bytes it is spelled = laws.image bytes it its_image spelled (subst (spells_image its_image) (sym is) imaged.0)

    not_unspelled : (bytes : List ℕ) (refusal : Refusal) → bytes ≡ bytes_under files image → IsUnspelled bytes refusal → ⊥
    not_unspelled bytes (Image place) is bad = laws.not_bad bytes its_image place (subst (spells_image its_image) (sym is) imaged.0) bad
    not_unspelled bytes _ is never = never

    not_unverified : (it : CodeImage) (refusal : Refusal) → it ≡ its_image → IsUnverified it refusal → ⊥
    not_unverified it (Code number place) same least =
        laws.no_fault it.unit it.code number place (subst (λ (x : CodeImage). IsVerified x.unit x.code) (sym same) is_verified) least.present
    not_unverified it _ same never = never

    -- ---- in a row

    exec_stops : (refusal : Refusal) → (executing (Some files) image until inputs script).stops refusal
        → (running (Some files) program until inputs script).stops refusal
    unfolding in_row
    exec_stops refusal (inl (is, many)) = let few = imaged.1 in absurd (omega (arith, few, many))
    exec_stops refusal (inr (bytes, (short, is), inl bad)) = absurd (not_unspelled bytes refusal is bad)
    exec_stops refusal (inr (bytes, (short, is), inr (it, spelled, inl bad))) = absurd (not_unverified it refusal (is_image bytes it is spelled) bad)
    exec_stops refusal (inr (bytes, (short, is), inr (it, spelled, inr (ways, checked, stops)))) =
        let (sure, tail) = subst (λ (x : CodeImage). IsChecked x.unit x.code ways × (exec_tail files x.unit x.code ways until inputs script).stops refusal)
        (is_image bytes it is spelled) (checked, stops) in
        inr (unit, compiled, tail_stops files unit ways until (are_stated ways sure) (code_of unit) inputs script refusal tail)

    exec_gives : (done : Service) → (executing (Some files) image until inputs script).gives done
        → (other : Service) × (running (Some files) program until inputs script).gives other × (text_of done ≡ text_of other)
    unfolding in_row
    exec_gives done (bytes, (short, is), (it, spelled, (ways, checked, gives))) =
        let (sure, tail) = subst (λ (x : CodeImage). IsChecked x.unit x.code ways × (exec_tail files x.unit x.code ways until inputs script).gives done)
        (is_image bytes it is spelled) (checked, gives) in
        let (other, its, same) = tail_gives files unit ways until (are_stated ways sure) laws.histories text (code_of unit) (laws.acts unit text)
        (λ supply given. (laws.supplied unit until supply text given).followed) (laws.inputs unit) inputs script done tail in
        (other, (unit, compiled, its), same)

    module _ (ran executed : List (List ℕ)) (asks_first : Asks ran (Run program until inputs script))
        (asks_second : Asks executed (Exec image until inputs script)) where
      is_exec : (command : Command) → Asks executed command → command ≡ Exec image until inputs script
      is_exec command asks = one_command executed command (Exec image until inputs script) asks asks_second

      -- It is an answer of `run`.
      pub answers : (status : ℕ) (said : List ℕ) → Answers executed (Some files) status said → Answers ran (Some files) status said
      unfolding in_row
      answers _ _ (refused refusal (inl (is, nothing))) = absurd (nothing (Exec image until inputs script) asks_second)
      answers _ _ (refused refusal (inr (command, asks, stops))) =
          refused refusal (inr (
            Run program until inputs script,
            asks_first,
            exec_stops refusal
                (subst (λ c. (serving (Some files) c).stops refusal) (is_exec command asks) stops),
          ))
      answers _ _ (served done (command, asks, gives)) =
          let (other, its, same) = exec_gives done (subst (λ c. (serving (Some files) c).gives done) (is_exec command asks) gives) in
          subst (Answers ran (Some files) 0) (sym same) (served other (Run program until inputs script, asks_first, its))
