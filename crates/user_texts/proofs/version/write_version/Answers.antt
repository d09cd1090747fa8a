use Rattle.std.proofs.Common.{◌≡◌, MatchResult, option_map, sym, subst}
use Rattle.std.specs.Io.KnownBytes.{Appends}
use Rattle.user_texts.specs.declared.version.TheConstants.{VERSION}
use Rattle.user_texts.specs.declared.writing.TextFault.TheVariants.{Write}
use Rattle.user_texts.specs.VersionText.{commit_said, version_text}
use Rattle.user_texts.proofs.Grown.{both_written}
use Rattle.user_texts.proofs.version.write_version.Goals as goal

pub returns-in-Some : goal.returns-in-Some
returns-in-Some g c =
    let old = g.W.Write.contents c.args.out.now in
    let new = g.W.Write.contents c.write_if_commit.new.out in
    subst (λ o. MatchResult c.write_if_commit.result (λ _. Appends old new (version_text (option_map (λ text. text.now) o))) (λ fault. fault ≡ Write)) (sym c.in-Some.is)
    (both_written old (g.W.Write.contents c.write_text.new.out) new VERSION.now (commit_said c.in-Some.commit.now) c.write_if_commit.result c.in_ok-write_text.ensures c.write_if_commit.ensures)
