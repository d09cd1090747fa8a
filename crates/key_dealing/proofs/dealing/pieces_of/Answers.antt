use Rattle.std.proofs.Common.{◌≡◌, ◌∙◌, ap, map}
use Rattle.std.specs.List.{range_with_len}
use Rattle.columns.specs.Parts.{piece}
use Rattle.key_dealing.specs.Dealing.{owner, dealt}
use Rattle.key_dealing.proofs.Dealt.{map_alike, piece_dealt}
use Rattle.key_dealing.proofs.dealing.pieces_of.Goals as goal

pub returns-in-Ok : goal.returns-in-Ok
returns-in-Ok c =
    let t = c.args.batch.now in
    let targets = c.deref.result.now in
    let is : targets ≡ map (owner c.args.max c.args.par) (Rattle.plain_data.specs.Record.column_of c.args.key t.rows) =
    c.deref.ensures.value ∙ c.in_ok-owners.ensures.owners ∙ ap (map (owner c.args.max c.args.par)) c.column-keys.ensures in
    let same : map (piece targets t) (range_with_len 0 c.get.result) ≡ map (dealt c.args.max c.args.par c.args.key t) (range_with_len 0 c.args.par) =
    map_alike (piece targets t) (dealt c.args.max c.args.par c.args.key t) (range_with_len 0 c.get.result) (piece_dealt c.args.max c.args.par c.args.key t targets is)
    ∙ ap (λ n. map (dealt c.args.max c.args.par c.args.key t) (range_with_len 0 n)) c.get.ensures.says in
    record { pieces = c.in-Ok.ensures.pieces ∙ same }
