-- A job that has come to a cut, and takes in what its next leg gives.
use Rattle.std.proofs.Common.{◌≡◌, ℕ, ◌+◌, ◌≤◌, List, [], ◌∷◌, ◌++◌, map, length, Result, Ok, Err, IsErr, IsErrAnd, MatchResult, sym, subst}
use Rattle.std.specs.List.{AllZip}
use Rattle.plan_model.specs.PlanData.{PlanData}
use Rattle.plan_model.specs.Rows.{AreRowsOf}
use Rattle.stream_model.specs.declared.entry.Marked.{Marked}
use Rattle.stream_model.specs.InputData.{InputData, IsInput}
use Rattle.stream_model.specs.Watermarks.{IsCut, IsBefore, full_cut}
use Rattle.stream_model.specs.PlanRows.{due_rows}
use Rattle.dataflow_laws.specs.Compiled.{cut_to}
use Rattle.legs.specs.declared.fault.LegFault.{LegFault}
use Rattle.legs.specs.declared.stop.Stop.{Stop}
use Rattle.legs.specs.declared.stop.Stop.TheVariants.{Never, At}
use Rattle.legs.specs.Stops.{until_of}
use Rattle.redistribute.specs.Stopping.{CanStop}
use Rattle.core_steps.specs.declared.finish.Finish.{Finish}
use Rattle.core_steps.proofs.Ending.{end_is_cut}
use Rattle.job_legs.specs.Laws.{RowsAddUp}
use Rattle.job_legs.specs.Reached.{ComesTo, IsAt, IsAfter, IsLeftBy, rows_of, saved_of, savepoints_to}
use Rattle.job_legs.specs.declared.running.Reached.{Reached}

-- what holds of pairs of two lists, told of the second and an image of the first
turned : {X Y Z : Type 0} (P : X → Y → Type 0) (Q : Y → Z → Type 0) (f : X → Z) → ((x : X) (y : Y) → P x y → Q y (f x)) → (xs : List X) (ys : List Y) → AllZip P xs ys → AllZip Q ys (map f xs)
turned P Q f each [] [] all = all
turned P Q f each [] (y ∷ ys) all = absurd all
turned P Q f each (x ∷ xs) [] all = absurd all
turned P Q f each (x ∷ xs) (y ∷ ys) all = (each x y all.0, turned P Q f each xs ys all.1)

before_full : (ss : List (List (List Marked))) (cut : List (List ℕ)) → IsCut ss cut → IsBefore cut (full_cut ss)
before_full ss cut is = turned (AllZip (λ p n. n ≤ length p)) (AllZip (λ m n. m ≤ n)) (map (λ p. length p)) (λ ps ns. turned (λ p n. n ≤ length p) (λ m n. m ≤ n) (λ p. length p) (λ p n h. h) ps ns) ss cut is

pub before_end : (i : InputData) (cut : List (List ℕ)) (stop : Stop) → IsCut i.sources cut → CanStop i.sources cut stop → IsBefore cut (cut_to i (until_of stop))
before_end i cut Never is can = before_full i.sources cut is
before_end i cut (At end) is can = can.1

-- a fault that is passed on
pub fails : {T : Type 0} (Q : T → Type 0) (P : LegFault → Type 0) (fault : LegFault) (result : Result T LegFault) → IsErr result → IsErrAnd result (λ e. e ≡ fault) → P fault → MatchResult result Q P
fails Q P fault (Ok x) failed is h = absurd cc
fails Q P fault (Err e) failed is h = subst P (sym is) h

module _ (p : PlanData) (i : InputData) (input : IsInput i) (add : RowsAddUp) (cut : List (List ℕ)) (number : ℕ) where
  pub after : (old new : Reached) (saves : List (List (List ℕ))) (stop : Stop) (finish : Finish) → IsAt p i cut number old → CanStop i.sources cut stop → ComesTo p i cut number saves stop finish
      → new.rows.items ≡ old.rows.items ++ rows_of finish → new.savepoint ≡ saved_of finish → IsAfter p i stop (number + savepoints_to saves stop) new
  after old new saves stop finish at can came rows saved =
      let is = end_is_cut i cut stop can in
      record {
        is_cut = is;
        rows = subst (AreRowsOf (due_rows p i.sources (cut_to i (until_of stop)))) (sym rows) (add p i cut (cut_to i (until_of stop)) old.rows.items (rows_of finish) input (before_end i cut stop at.is_cut can) is at.rows came.delivered);
        saved = subst (IsLeftBy p i (number + savepoints_to saves stop) stop) (sym saved) came.left;
      }
