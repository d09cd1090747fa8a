-- What holds of the work of many jobs.
use Rattle.std.proofs.Common.{List, [], ◌∷◌, ◌++◌}
use Rattle.std.specs.List.{AllZip}
use Rattle.stream_model.specs.InputData.{InputData}
use Rattle.thread_runner.specs.declared.jobs.Job.{Job}
use Rattle.thread_runner.specs.declared.jobs.Done.{Done}
use Rattle.thread_runner.specs.Jobs.{IsWorkOf, AllWorkOf}

pub all_zip_last : {A B : Type 0} (P : A → B → Type 0) (xs : List A) (ys : List B) (x : A) (y : B) → AllZip P xs ys → P x y → AllZip P (xs ++ x ∷ []) (ys ++ y ∷ [])
all_zip_last P [] [] x y h p = (p, tt)
all_zip_last P (a ∷ xs) (b ∷ ys) x y h p = (h.0, all_zip_last P xs ys x y h.1 p)
all_zip_last P [] (b ∷ ys) x y h p = absurd h
all_zip_last P (a ∷ xs) [] x y h p = absurd h

pub all_work_last : (i : InputData) (js : List Job) (ds : List Done) (j : Job) (d : Done) → AllWorkOf i js ds → IsWorkOf i j d → AllWorkOf i (js ++ j ∷ []) (ds ++ d ∷ [])
all_work_last i js ds j d = all_zip_last (IsWorkOf i) js ds j d
