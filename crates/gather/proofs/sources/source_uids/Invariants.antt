use Rattle.std.proofs.Common.{◌≡◌, true, map, take}
use Rattle.std.specs.Ordering.{nat_cmp}
use Rattle.std.specs.Cmp.Lexicographic.{slice_cmp}
use Rattle.std.specs.List.{list_all}
use Rattle.plan_model.specs.Uids.{is_uid}
use Rattle.plan_record.specs.PlanRecord.{ascending}
use Rattle.gather.proofs.sources.source_uids.Given as goal

abbrev pub invariant-loop-source : goal.invariant-loop-source
invariant-loop-source l = record {
  says : map (λ uid. uid.now) l.uids.keys ≡ ascending (slice_cmp nat_cmp) (map (λ s. s.uid) (take l.source-index l.sources));
  named : list_all (λ uid. is_uid uid.now) l.uids.keys ≡ true;
}
