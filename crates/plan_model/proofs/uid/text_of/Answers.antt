use Rattle.std.proofs.lemmas.Str.{IsUtf8-from_ascii}
use Rattle.plan_model.proofs.UidField.{ascii_of_uid}
use Rattle.plan_model.proofs.uid.text_of.Goals as goal

pub unreachable-requires : goal.unreachable-requires
unreachable-requires c = c.in-Err.ensures.cases.0 (IsUtf8-from_ascii _ (ascii_of_uid _ c.requires))
