use Rattle.std.proofs.Common.{◌+◌, ◌*◌, ◌<◌, map, set, length, ap, sym, subst, ◌∙◌}
use Rattle.core_steps.specs.Queues.{queue_of, with_message}
use Rattle.core_steps.specs.Rings.{RingsData, queue_at, ChangesQueue}
use Rattle.core_steps.proofs.Places.{put_there, has_place}
use Rattle.core_steps.proofs.rings.Rings.put.Goals as goal

pub returns : goal.returns
returns c =
    let s = c.self.inside in
    let tasks = ap (λ (r : RingsData). r.tasks) c.self.view_is in
    let new : RingsData = record { tasks = s.tasks; queues = map queue_of (set s.queues.items c.place-place.result c.push_back_reserved.new.self) } in
    let at = c.place-place.ensures ∙ ap (λ n. c.args.sender * n + c.args.receiver) (sym tasks) in
    let room = subst (λ (r : RingsData). length (queue_at r c.args.sender c.args.receiver).messages < (queue_at r c.args.sender c.args.receiver).room) (sym c.self.view_is) c.requires.room in
    let within = has_place s.queues.items s.tasks c.args.sender c.args.receiver c.place-place.result at room in
    subst (λ (r : RingsData). ChangesQueue c.args.sender c.args.receiver (with_message (queue_at r c.args.sender c.args.receiver) c.args.message) r new) c.self.view_is
    (put_there s.queues.items s.tasks c.args.sender c.args.receiver c.place-place.result c.index_mut.result.now c.push_back_reserved.new.self c.args.message
    (subst (λ n. c.args.receiver < n) (sym tasks) c.requires.receiver) at within c.index_mut.ensures.value c.push_back_reserved.ensures.items c.push_back_reserved.ensures.capacity)
