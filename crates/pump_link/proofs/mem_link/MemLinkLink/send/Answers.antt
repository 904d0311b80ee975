use Rattle.std.proofs.Common.{arith, ℕ, ◌-◌, List, ◌++◌, length, take, drop, refl, sym, ap, ◌∙◌, take-append-drop}
use Rattle.std.proofs.lemmas.Grind.{common_steps}
use Rattle.std.proofs.lemmas.List.{drop_all}
use Rattle.pump_link.proofs.mem_link.MemLinkLink.send.Goals as goal

pub returns-then-not-put-clause-sent : goal.returns-then-not-put-clause-sent
returns-then-not-put-clause-sent c =
    let room = length c.self.inside.room.items - c.self.inside.sent in
    let bytes = c.args.bytes.now in (
      take room bytes,
      drop room bytes,
      sym (take-append-drop room bytes),
      tt,
      record {
        told = λ log t.
            ap (λ v. v.sent) c.self-2.view_is ∙ ap (λ v. v.sent) c.put.ensures.sent ∙ ap (λ (xs : List ℕ). xs ++ take room bytes) (ap (λ v. v.sent) c.self.view_is ∙ t);
      },
    )

pub returns-clause-sent : goal.returns-clause-sent
returns-clause-sent c =
    let room = length c.self.inside.room.items - c.self.inside.sent in
    let bytes = c.args.bytes.now in (
      take room bytes,
      drop room bytes,
      sym (take-append-drop room bytes),
      drop_all room bytes (c.if-not-put.ensures.all.0 refl),
      record {
        told = λ log t.
            ap (λ v. v.sent) c.put.ensures.sent ∙ ap (λ (xs : List ℕ). xs ++ take room bytes) (ap (λ v. v.sent) c.self.view_is ∙ t);
      },
    )

pub returns-clause-fails : goal.returns-clause-fails
returns-clause-fails c = grind (arith, common_steps)

pub returns-then-not-put-clause-fails : goal.returns-then-not-put-clause-fails
returns-then-not-put-clause-fails c = grind (arith, common_steps)
