use Rattle.std.proofs.Common.{◌≡◌, sym, subst, ◌+◌, ◌^◌, ◌%◌, ◌<◌, length, List, arith}
use Rattle.std.proofs.Math.ListN.{set}
use Rattle.twice_table.specs.Linked.{AreLinked}
use Rattle.twice_table.specs.declared.chains.Link.{Link}
use Rattle.twice_table.proofs.Links.{link_push}
use Rattle.twice_table.proofs.chains.link_one.Goals as goal

pub returns-clause-linked : goal.returns-clause-linked
returns-clause-linked c =
    let reach : c.chain_of-chain.result < length c.args.lasts.now.items = omega arith in
    let few : c.len-place.result + 1 < 2 ^ 32 = omega arith in
    let count : c.len-place.result + 1 ≡ length c.args.links.now.items + 1 = omega arith in
    let wide : c.chain_of-chain.result ≡ c.args.code % length c.args.lasts.now.items = cc in
    let linked = (link_push c.args.links.now.items c.args.lasts.now.items c.args.code c.chain_of-chain.result c.index-before.result.now (c.len-place.result + 1) c.requires.linked c.requires.room wide reach c.index-before.ensures count few).0 in
    subst (λ (links : List Link). AreLinked links (set c.args.lasts.now.items c.chain_of-chain.result (c.len-place.result + 1))) (sym c.in_ok-push.ensures.items) linked
