-- An event leads to one world at most.
use Rattle.std.proofs.Common.{◌≡◌, Some, None, sym, ◌∙◌}
use Rattle.pump_core.specs.declared.event.Event.{Event}
use Rattle.pump_core.specs.declared.event.Event.TheVariants.{StoreBegin, StoreEnd, Forward, TakeUp, Send, CarryData, TakeBegin, TakeEnd, ReturnTaken, RemoveBegin, RemoveEnd, Acknowledge, Crash}
use Rattle.pump_core.specs.World.{World}
use Rattle.pump_core.specs.Events.{Happens}

pub happens_once : (w : World) (e : Event) (u v : World) → Happens w e u → Happens w e v → u ≡ v
happens_once w (StoreBegin p) u v h k = h.2 ∙ sym k.2
happens_once w StoreEnd u v (p, a, e) (q, b, f) = cc
happens_once w Forward u v (n, a, l, e) (m, b, r, f) = cc
happens_once w TakeUp u v (n, ns, a, b, e) (m, ms, c, d, f) = cc
happens_once w Send u v (n, p, a, r, b, e) (m, q, c, s, d, f) = cc
happens_once w (CarryData k) u v (d, a, b, l, e) (c, x, y, z, f) = cc
happens_once w TakeBegin u v h k = h.3 ∙ sym k.3
happens_once w TakeEnd u v (p, a, t, e) (q, b, s, f) = cc
happens_once w (ReturnTaken k) u v (n, a, r, e) (m, b, s, f) = cc
happens_once w RemoveBegin u v h k = h.2 ∙ sym k.2
happens_once w RemoveEnd u v h k = h.1 ∙ sym k.1
happens_once w (Acknowledge n) u v h k = h.3 ∙ sym k.3
happens_once w (Crash None None) u v h k = absurd h
happens_once w (Crash None (Some r)) u v h k = h ∙ sym k
happens_once w (Crash (Some p) r) u v h k = h ∙ sym k
