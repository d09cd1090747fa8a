-- What tasks have kept of a leg that goes on.
use Rattle.std.proofs.Common.{◌≡◌, ℕ, zero, suc, ◌+◌, ◌-◌, ◌<◌, ◌≤◌, List, [], ◌∷◌, None, length, get_or, cond, eqb, refl, sym, ap, ◌∙◌, arith}
use Rattle.std.specs.Prelude.{slice_index_or}
use Rattle.plan_model.specs.PlanData.{PlanData}
use Rattle.plan_model.specs.Rows.{is_due}
use Rattle.stream_model.specs.InputData.{InputData}
use Rattle.stream_model.specs.Watermarks.{merged_watermark}
use Rattle.dataflow_model.specs.declared.role.Role.TheVariants.{Source}
use Rattle.dataflow_model.specs.Leg.{Until, leg_of, limit_of, count_at}
use Rattle.dataflow_model.specs.AbstractLayout.{AbstractLayout, Deals, partition_read}
use Rattle.dataflow_model.specs.State.{State}
use Rattle.dataflow_model.specs.OneLeg.{IsOneLeg}
use Rattle.dataflow_model.specs.Cuts.{save_cut}
use Rattle.layout_rules.specs.declared.stage.Stage.{Stage}
use Rattle.layout_rules.proofs.Facts.{compiled_is_layout}
use Rattle.input_flow.specs.InputEntries.{entries_of, input_of, counts_at}
use Rattle.input_flow.proofs.Facts.{input_is_orderly, watermark_at_cut, snapshot_at_cut}
use Rattle.dataflow_laws.specs.Compiled.{layout_to}
use Rattle.dataflow_laws.specs.Kept.{SavesAt, SavepointDelivers, CompiledSavepointDelivers}
use Rattle.dataflow_laws.proofs.Dealing.{merged_of, orderly_of, same_up_to}
use Rattle.dataflow_laws.proofs.Lineage.{row_at, starts_at}
use Rattle.dataflow_laws.proofs.Savepoints.{savepoint_is_exact}
use Rattle.dataflow_laws.proofs.Delivered.{had, row_due}

-- the limits of a partition rise up to the last
up_to_last : (l : AbstractLayout) (start : ℕ → State) → IsOneLeg l start → (t k d m : ℕ) → t < l.before → (l.task t).role ≡ Source → k < (l.task t).inputs → m + d ≡ (l.task t).saves → (l.task t).limit m k ≤ (l.task t).limit (l.task t).saves k
up_to_last l start one t k zero m b a kl e = (let same : (l.task t).limit m k ≡ (l.task t).limit (l.task t).saves k = ap (λ n. (l.task t).limit n k) (let z : m ≡ (l.task t).saves = omega (arith, e) in z) in omega (arith, same))
up_to_last l start one t k (suc d) m b a kl e =
    let less : m < (l.task t).saves = omega (arith, e) in
    let next = one.rises t m k b a kl less in
    let rest = up_to_last l start one t k d (suc m) b a kl (omega (arith, e)) in
    omega (arith, next, rest)

pub savepoint_delivers : SavepointDelivers
savepoint_delivers p i b cut leg l start m input orderly belongs b_cut is_cut ok d one opens has h few at passed =
    let x = input_of p i in
    let w = merged_watermark i.sources b in
    let v = merged_watermark i.sources cut in
    let o = input_is_orderly p i input orderly belongs in
    let vt = watermark_at_cut p i cut belongs is_cut in
    let st = starts_at p x o leg l d start (counts_at p b) w opens has.offsets (had p i l start b belongs b_cut has.windows) (watermark_at_cut p i b belongs b_cut) in
    let s = savepoint_is_exact p l start w v m ok (orderly_of x leg l d p o) one st h few passed (merged_of x leg l d (save_cut l m) (counts_at p cut) v at vt) in
    let within : (t k : ℕ) → t < l.before → (l.task t).role ≡ Source → k < (l.task t).inputs → save_cut l m t k ≤ (l.task t).size k = λ t k b a kl.
    (let sink = one.alike t (let z = ok.some_windows in omega (arith, z, b)) in
    let mine : m < (l.task t).saves = (let e = sink.1 in omega (arith, few, e)) in
    let up = up_to_last l start one t k ((l.task t).saves - m) m b a kl (omega (arith, mine)) in
    let end = one.within t k b a kl in
    omega (arith, up, end)) in
    record {
      rows = λ q. s.rows q ∙ row_at p x o leg l d (save_cut l m) (counts_at p cut) w v at within vt q ∙ row_due p i b cut q belongs;
      snapshot = record {
        offsets = λ t k b a kl. s.offsets t k b a kl ∙ at t k b a kl;
        windows = λ u lo hi q. s.windows u lo hi q
            ∙ ap (λ y. cond (eqb (l.owner q.key) u) (cond (is_due p.window v q.start) None y) None) (same_up_to x leg l d p (save_cut l m) (counts_at p cut) at q)
            ∙ ap (λ y. cond (eqb (l.owner q.key) u) y None) (snapshot_at_cut p i cut q belongs is_cut);
      };
      marks = λ t k e b a kl. s.marks t k e b a kl ∙ (d.there t k b a kl).watermark (save_cut l m t k) ∙ ap (x.watermark (partition_read x l t k)) (at t k b a kl);
    }

-- until savepoint m a partition is read to its count at that cut
limit_save : (size : ℕ → ℕ → ℕ) (until : Until) (saves : List (List (List ℕ))) (m x q : ℕ) → m < length saves → limit_of size until saves m x q ≡ count_at (get_or saves m []) x q
limit_save size until [] m x q l = absurd (omega (arith, l))
limit_save size until (cut ∷ cuts) zero x q l = refl
limit_save size until (cut ∷ cuts) (suc m) x q l = limit_save size until cuts m x q (omega (arith, l))

pub saves_at : (p : PlanData) (i : InputData) (n : ℕ) (saves : List (List (List ℕ))) (until : Until) (stages : List Stage) (m : ℕ) → m < length saves → Deals (input_of p i) (leg_of n saves until (entries_of i).size) (layout_to p i n saves until stages)
    → SavesAt p i (layout_to p i n saves until stages) m (slice_index_or saves m [])
saves_at p i n saves until stages m few deals t k b a kl =
    let d = deals.there t k b a kl in
    d.limit m ∙ limit_save (entries_of i).size until saves m _ _ few ∙ (λ j. count_at (get_or saves m []) (sym d.source j) (sym d.number j))

pub compiled_savepoint_delivers : CompiledSavepointDelivers
compiled_savepoint_delivers p c i n b saves until stages start m ip sc is input orderly belongs b_cut few is_cut opens has h passed =
    let leg = leg_of n saves until (entries_of i).size in
    let both = compiled_is_layout p c (entries_of i) leg stages ip sc is in
    savepoint_delivers p i b (slice_index_or saves m []) leg (layout_to p i n saves until stages) start m input orderly belongs b_cut is_cut both.0 both.1 opens.leg opens.opens has h few (saves_at p i n saves until stages m few both.1) passed
