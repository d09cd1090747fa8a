-- One of several streams is written to.
use Rattle.std.proofs.Common.{◌≡◌, ℕ, ◌<◌, List, length, set, map, Option, None, ap, ◌∙◌, arith}
use Rattle.std.proofs.lemmas.List.{get_or-set_same, get_or-set_other, length-map, map-set}
use Rattle.import_copies.specs.Streams.{stream_at}

pub at_place : {W : Type 0} (contents : W → Option (List ℕ)) (outs : List W) (place : ℕ) (out : W) → place < length outs → stream_at (map contents (set outs place out)) place ≡ contents out
at_place contents outs place out within =
    ap (λ l. stream_at l place) (map-set contents outs place out) ∙ get_or-set_same (map contents outs) place (contents out) None (omega (arith, within, length-map outs contents))

pub elsewhere : {W : Type 0} (contents : W → Option (List ℕ)) (outs : List W) (place : ℕ) (out : W) (i : ℕ) → (i ≡ place → ⊥) → stream_at (map contents (set outs place out)) i ≡ stream_at (map contents outs) i
elsewhere contents outs place out i other =
    ap (λ l. stream_at l i) (map-set contents outs place out) ∙ get_or-set_other (map contents outs) place i (contents out) None other
