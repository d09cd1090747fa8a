-- Agreement before one cut and another, and what agrees.
use Rattle.std.proofs.Common.{◌≡◌, ◌∙◌, ℕ, ◌≤◌, ◌<◌, ◌==◌, false, List, [], ◌∷◌, inl, inr, take, drop, length, map, ap, refl, sym, subst, arith}
use Rattle.std.specs.List.{AllZip}
use Rattle.std.proofs.lemmas.Bool.{cases_lt, ne_eqb}
use Rattle.std.proofs.lemmas.List.{length-append, length-take, length-take-le, take-append-drop, take-append-le, take_all}
use Rattle.stream_model.specs.declared.entry.Marked.{Marked}
use Rattle.stream_model.specs.Watermarks.{IsBefore, IsCut, partition_watermark}
use Rattle.input_changes.specs.Agreement.{GoOn, GoOnIn, MayBecome, entries_before, entries_before_in, watermarks_at, watermarks_at_in}
use Rattle.input_changes.specs.Laws.{AgreeEarlier, AgreeThemselves, EntriesKeepTheCut, GoingOnAgrees}

-- ---- one partition

-- so many entries of a partition are known by those of a longer part
part_of : (m n : ℕ) (p : List Marked) → m ≤ n → n ≤ length p → take m p ≡ take m (take n p)
part_of m n p l short =
    let all : m ≤ length (take n p) = omega (arith, length-take-le n p short) in
    ap (take m) (sym (take-append-drop n p)) ∙ take-append-le m (take n p) (drop n p) all

-- two partitions of which so many entries were read have the same of them, and the same watermark there
record Agree (n : ℕ) (p r : List Marked) : Type 0 where
  of_old : n ≤ length p
  of_new : n ≤ length r
  entries : take n p ≡ take n r
  watermark : partition_watermark p n ≡ partition_watermark r n

-- short of both ends the entries say the watermark
watermark_said : (n : ℕ) (p r : List Marked) → n < length p → n < length r → take n p ≡ take n r → partition_watermark p n ≡ partition_watermark r n
watermark_said n p r here there same =
    let left : (n == length p) ≡ false = ne_eqb n (length p) (λ e. omega arith) in
    let right : (n == length r) ≡ false = ne_eqb n (length r) (λ e. omega arith) in
    rw (left, right, same) refl

earlier : (m n : ℕ) (p r : List Marked) → m ≤ n → Agree n p r → Agree m p r
earlier m n p r l a =
    let of_old : m ≤ length p = omega (arith, a.of_old) in
    let of_new : m ≤ length r = omega (arith, a.of_new) in
    let same : take m p ≡ take m r = part_of m n p l a.of_old ∙ ap (take m) a.entries ∙ sym (part_of m n r l a.of_new) in
    record {
      of_old = of_old;
      of_new = of_new;
      entries = same;
      watermark = elim (cases_lt m n) [
        | inl short ↦ watermark_said m p r (omega (arith, a.of_old)) (omega (arith, a.of_new)) same
        | inr long ↦ let e : n ≡ m = omega arith in subst (λ k. partition_watermark p k ≡ partition_watermark r k) e a.watermark
      ];
    }

becomes : (n : ℕ) (p r : List Marked) → MayBecome n p r → Agree n p r
becomes n p r (inl (short, (e, rest, is))) =
    let kept : length (take n p) ≡ n = length-take-le n p (omega arith) in
    let long : n < length r = omega (arith, ap length is, length-append (take n p) (e ∷ rest)) in
    let same : take n p ≡ take n r = sym (take_all n (take n p) (omega arith)) ∙ sym (take-append-le n (take n p) (e ∷ rest) (omega arith)) ∙ ap (take n) (sym is) in
    record { of_old = omega arith; of_new = omega arith; entries = same; watermark = watermark_said n p r short long same }
becomes n p r (inr (whole, is)) =
    let short : n ≤ length p = omega arith in
    record { of_old = short; of_new = subst (λ x. n ≤ length x) (sym is) short; entries = ap (take n) (sym is); watermark = ap (λ x. partition_watermark x n) (sym is) }

-- ---- all of them

-- agreement of the partitions of a source, and of sources, part by part
record InSource (ps rs : List (List Marked)) (ns : List ℕ) : Type 0 where
  of_old : AllZip (λ p n. n ≤ length p) ps ns
  of_new : AllZip (λ p n. n ≤ length p) rs ns
  entries : entries_before_in ps ns ≡ entries_before_in rs ns
  watermarks : watermarks_at_in ps ns ≡ watermarks_at_in rs ns

record InSources (ss rs : List (List (List Marked))) (cs : List (List ℕ)) : Type 0 where
  of_old : IsCut ss cs
  of_new : IsCut rs cs
  entries : entries_before ss cs ≡ entries_before rs cs
  watermarks : watermarks_at ss cs ≡ watermarks_at rs cs

no_partition : InSource [] [] []
no_partition = record { of_old = tt; of_new = tt; entries = refl; watermarks = refl }

no_source : InSources [] [] []
no_source = record { of_old = tt; of_new = tt; entries = refl; watermarks = refl }

first_partition : (p r : List Marked) (ps rs : List (List Marked)) (n : ℕ) (ns : List ℕ) → InSource (p ∷ ps) (r ∷ rs) (n ∷ ns) → Agree n p r
first_partition p r ps rs n ns a = record {
  of_old = a.of_old.0;
  of_new = a.of_new.0;
  entries = (let e = a.entries in cc);
  watermark = (let e = a.watermarks in cc);
}

other_partitions : (p r : List Marked) (ps rs : List (List Marked)) (n : ℕ) (ns : List ℕ) → InSource (p ∷ ps) (r ∷ rs) (n ∷ ns) → InSource ps rs ns
other_partitions p r ps rs n ns a = record {
  of_old = a.of_old.1;
  of_new = a.of_new.1;
  entries = (let e = a.entries in cc);
  watermarks = (let e = a.watermarks in cc);
}

one_partition_more : (p r : List Marked) (ps rs : List (List Marked)) (n : ℕ) (ns : List ℕ) → Agree n p r → InSource ps rs ns → InSource (p ∷ ps) (r ∷ rs) (n ∷ ns)
one_partition_more p r ps rs n ns a b = record {
  of_old = (a.of_old, b.of_old);
  of_new = (a.of_new, b.of_new);
  entries = λ k. a.entries k ∷ b.entries k;
  watermarks = λ k. a.watermark k ∷ b.watermarks k;
}

first_source : (s r : List (List Marked)) (ss rs : List (List (List Marked))) (c : List ℕ) (cs : List (List ℕ)) → InSources (s ∷ ss) (r ∷ rs) (c ∷ cs) → InSource s r c
first_source s r ss rs c cs a = record {
  of_old = a.of_old.0;
  of_new = a.of_new.0;
  entries = (let e = a.entries in cc);
  watermarks = (let e = a.watermarks in cc);
}

other_sources : (s r : List (List Marked)) (ss rs : List (List (List Marked))) (c : List ℕ) (cs : List (List ℕ)) → InSources (s ∷ ss) (r ∷ rs) (c ∷ cs) → InSources ss rs cs
other_sources s r ss rs c cs a = record {
  of_old = a.of_old.1;
  of_new = a.of_new.1;
  entries = (let e = a.entries in cc);
  watermarks = (let e = a.watermarks in cc);
}

one_source_more : (s r : List (List Marked)) (ss rs : List (List (List Marked))) (c : List ℕ) (cs : List (List ℕ)) → InSource s r c → InSources ss rs cs → InSources (s ∷ ss) (r ∷ rs) (c ∷ cs)
one_source_more s r ss rs c cs a b = record {
  of_old = (a.of_old, b.of_old);
  of_new = (a.of_new, b.of_new);
  entries = λ k. a.entries k ∷ b.entries k;
  watermarks = λ k. a.watermarks k ∷ b.watermarks k;
}

-- ---- before an earlier cut

earlier_in : (ps rs : List (List Marked)) (ms ns : List ℕ) → AllZip (λ m n. m ≤ n) ms ns → InSource ps rs ns → InSource ps rs ms
earlier_in [] [] [] [] h a = no_partition
earlier_in (p ∷ ps) (r ∷ rs) (m ∷ ms) (n ∷ ns) h a =
    one_partition_more p r ps rs m ms (earlier m n p r h.0 (first_partition p r ps rs n ns a)) (earlier_in ps rs ms ns h.1 (other_partitions p r ps rs n ns a))
earlier_in ps rs [] (n ∷ ns) h a = absurd h
earlier_in ps rs (m ∷ ms) [] h a = absurd h
earlier_in [] rs (m ∷ ms) (n ∷ ns) h a = absurd a.of_old
earlier_in (p ∷ ps) [] (m ∷ ms) (n ∷ ns) h a = absurd a.of_new
earlier_in (p ∷ ps) rs [] [] h a = absurd a.of_old
earlier_in [] (r ∷ rs) [] [] h a = absurd a.of_new

earlier_all : (ss rs : List (List (List Marked))) (bs cs : List (List ℕ)) → IsBefore bs cs → InSources ss rs cs → InSources ss rs bs
earlier_all [] [] [] [] h a = no_source
earlier_all (s ∷ ss) (r ∷ rs) (b ∷ bs) (c ∷ cs) h a =
    one_source_more s r ss rs b bs (earlier_in s r b c h.0 (first_source s r ss rs c cs a)) (earlier_all ss rs bs cs h.1 (other_sources s r ss rs c cs a))
earlier_all ss rs [] (c ∷ cs) h a = absurd h
earlier_all ss rs (b ∷ bs) [] h a = absurd h
earlier_all [] rs (b ∷ bs) (c ∷ cs) h a = absurd a.of_old
earlier_all (s ∷ ss) [] (b ∷ bs) (c ∷ cs) h a = absurd a.of_new
earlier_all (s ∷ ss) rs [] [] h a = absurd a.of_old
earlier_all [] (r ∷ rs) [] [] h a = absurd a.of_new

pub agree_earlier : AgreeEarlier
agree_earlier old new b c before agree =
    let a = earlier_all old.sources new.sources b c before (record { of_old = agree.of_old; of_new = agree.of_new; entries = agree.entries; watermarks = agree.watermarks }) in
    record { columns = agree.columns; time = agree.time; of_old = a.of_old; of_new = a.of_new; entries = a.entries; watermarks = a.watermarks }

-- ---- what agrees

pub agree_themselves : AgreeThemselves
agree_themselves i cut is = record { columns = refl; time = refl; of_old = is; of_new = is; entries = refl; watermarks = refl }

going_on_in : (ps rs : List (List Marked)) (ns : List ℕ) → GoOnIn ps rs ns → InSource ps rs ns
going_on_in [] [] [] h = no_partition
going_on_in (p ∷ ps) (r ∷ rs) (n ∷ ns) h = one_partition_more p r ps rs n ns (becomes n p r h.0) (going_on_in ps rs ns h.1)
going_on_in [] [] (n ∷ ns) h = absurd h
going_on_in [] (r ∷ rs) ns h = absurd h
going_on_in (p ∷ ps) [] ns h = absurd h
going_on_in (p ∷ ps) (r ∷ rs) [] h = absurd h

going_on : (ss rs : List (List (List Marked))) (cs : List (List ℕ)) → GoOn ss rs cs → InSources ss rs cs
going_on [] [] [] h = no_source
going_on (s ∷ ss) (r ∷ rs) (c ∷ cs) h = one_source_more s r ss rs c cs (going_on_in s r c h.0) (going_on ss rs cs h.1)
going_on [] [] (c ∷ cs) h = absurd h
going_on [] (r ∷ rs) cs h = absurd h
going_on (s ∷ ss) [] cs h = absurd h
going_on (s ∷ ss) (r ∷ rs) [] h = absurd h

pub going_on_agrees : GoingOnAgrees
going_on_agrees old new cut columns time h =
    let a = going_on old.sources new.sources cut h in
    record { columns = columns; time = time; of_old = a.of_old; of_new = a.of_new; entries = a.entries; watermarks = a.watermarks }

-- ---- a cut of both

kept_in : (ps rs : List (List Marked)) (ns : List ℕ) → length ps ≡ length rs → AllZip (λ p n. n ≤ length p) ps ns → entries_before_in ps ns ≡ entries_before_in rs ns → AllZip (λ p n. n ≤ length p) rs ns
kept_in [] [] [] many is same = tt
kept_in (p ∷ ps) (r ∷ rs) (n ∷ ns) many is same =
    let here : take n p ≡ take n r = cc in
    (omega (arith, is.0, ap length here, length-take n p, length-take n r), kept_in ps rs ns (omega (arith, many)) is.1 (let e : entries_before_in ps ns ≡ entries_before_in rs ns = cc in e))
kept_in [] (r ∷ rs) ns many is same = absurd (omega (arith, many))
kept_in (p ∷ ps) [] ns many is same = absurd (omega (arith, many))
kept_in [] [] (n ∷ ns) many is same = absurd is
kept_in (p ∷ ps) (r ∷ rs) [] many is same = absurd is

kept : (ss rs : List (List (List Marked))) (cs : List (List ℕ)) → map (λ s. length s) ss ≡ map (λ s. length s) rs → IsCut ss cs → entries_before ss cs ≡ entries_before rs cs → IsCut rs cs
kept [] [] [] many is same = tt
kept (s ∷ ss) (r ∷ rs) (c ∷ cs) many is same =
    (kept_in s r c (let e : length s ≡ length r = cc in e) is.0 (let e : entries_before_in s c ≡ entries_before_in r c = cc in e), kept ss rs cs (let e : map (λ x. length x) ss ≡ map (λ x. length x) rs = cc in e) is.1 (let e : entries_before ss cs ≡ entries_before rs cs = cc in e))
kept [] (r ∷ rs) cs many is same = absurd (let e : [] ≡ map (λ s. length s) (r ∷ rs) = many in cc)
kept (s ∷ ss) [] cs many is same = absurd (let e : map (λ s. length s) (s ∷ ss) ≡ [] = many in cc)
kept [] [] (c ∷ cs) many is same = absurd is
kept (s ∷ ss) (r ∷ rs) [] many is same = absurd is

pub entries_keep_the_cut : EntriesKeepTheCut
entries_keep_the_cut old new cut many is same = kept old.sources new.sources cut many is same
