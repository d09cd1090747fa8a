use Rattle.std.proofs.Common.{◌≡◌, ◌≤◌, ◌∷◌, ◌++◌, [], length, arith}
use Rattle.text_places.specs.declared.spot.Spot.{Spot}
use Rattle.text_places.proofs.Reading.{read_on, inside_on}
use Rattle.text_places.proofs.spot.spots_of.Goals as goal

pub tokens-preserved : goal.tokens-preserved
tokens-preserved c =
    let l = c.tokens in
    let x : Spot = record { token = c.in-Some.token; offset = c.min.result } in
    let pushed : c.push.new.self.items ≡ l.spots.items ++ x ∷ [] = c.in_ok-push.ensures.items in
    let near : c.min.result ≤ length c.args.text.now = grind arith in record {
      read = read_on l.spots.items c.push.new.self.items x l.reader c.next.new.self _ l.invariant.read c.in-Some.ensures.value pushed;
      inside = inside_on (length c.args.text.now) l.spots.items c.push.new.self.items x l.invariant.inside near pushed;
    }
