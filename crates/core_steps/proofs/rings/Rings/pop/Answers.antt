use Rattle.std.proofs.Common.{◌≡◌, ◌+◌, ◌*◌, ◌<◌, [], map, set, ap, sym, subst, ◌∙◌, rules}
use Rattle.std.specs.Prelude.{MatchOption, None}
use Rattle.core_steps.specs.Queues.{queue_of}
use Rattle.core_steps.specs.Rings.{RingsData, queue_at, PopsMessage}
use Rattle.core_steps.proofs.Places.{pop_there, no_ring}
use Rattle.core_steps.proofs.rings.Rings.pop.Goals as goal

pub returns-in_default : goal.returns-in_default
returns-in_default c =
    let s = c.self.inside in
    let tasks = ap (λ (r : RingsData). r.tasks) c.self.view_is in
    let place = c.place-place.ensures ∙ ap (λ n. c.args.sender * n + c.args.receiver) (sym tasks) in
    (ap (λ (r : RingsData). (queue_at r c.args.sender c.args.receiver).messages) (sym c.self.view_is) ∙ no_ring s.queues.items s.tasks c.args.sender c.args.receiver c.place-place.result place c.in_default.ensures.item.3, c.self.view_is)

pub returns : goal.returns
returns c =
    let s = c.self.inside in
    let tasks = ap (λ (r : RingsData). r.tasks) c.self.view_is in
    let new : RingsData = record { tasks = s.tasks; queues = map queue_of (set s.queues.items c.place-place.result c.pop_front.new.self) } in
    let none : c.pop_front.result ≡ None → c.in-Some.queue.now.items ≡ [] = λ e. (search rules) in
    subst (λ (r : RingsData). MatchOption c.pop_front.result (((queue_at r c.args.sender c.args.receiver).messages ≡ []) × (new ≡ r)) (λ m. PopsMessage c.args.sender c.args.receiver m r new)) c.self.view_is
    (pop_there s.queues.items s.tasks c.args.sender c.args.receiver c.place-place.result c.in-Some.queue.now c.pop_front.new.self c.pop_front.result
    (subst (λ n. c.args.receiver < n) (sym tasks) c.requires) (c.place-place.ensures ∙ ap (λ n. c.args.sender * n + c.args.receiver) (sym tasks)) c.in-Some.ensures.item.3.0 c.in-Some.ensures.value c.pop_front.ensures.items none c.pop_front.ensures.capacity)
