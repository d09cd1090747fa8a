use Rattle.std.proofs.Common.{◌∙◌, ◌+◌, arith}
use Rattle.std.proofs.Math.ListN.{length-set}
use Rattle.twice_table.proofs.Links.{step}
use Rattle.twice_table.specs.declared.chains.Link.{Link}
use Rattle.twice_table.proofs.chains.link_all.Goals as goal

pub loop-i-preserved : goal.loop-i-preserved
loop-i-preserved c =
    let stepped = step c.loop-i.links.items c.loop-i.lasts.items c.args.chains c.loop-i.i c.index.result.now c.chain_of-chain.result c.index-link.result.now c.index_mut.result.now
    (omega (arith, c.loop-i.invariant.count)) c.loop-i.invariant.size c.chain_of-chain.ensures.within c.index-link.ensures c.index_mut.ensures.value c.chain_of-chain.ensures.value c.index.ensures
    c.loop-i.invariant.lasts c.loop-i.invariant.befores in
    let link : Link = record { code = c.index_mut.result.now.code; before = c.index.result.now } in
    record {
      count = length-set c.loop-i.links.items c.loop-i.i link ∙ c.loop-i.invariant.count;
      codes = stepped.0 ∙ c.loop-i.invariant.codes;
      size = length-set c.loop-i.lasts.items c.chain_of-chain.result (c.loop-i.i + 1) ∙ c.loop-i.invariant.size;
      lasts = stepped.1;
      befores = stepped.2;
    }
