-- What lies past the new bytes: zeros over the old ones, and the zeros that lay past those.
use Rattle.std.proofs.Common.{◌≡◌, ℕ, ◌+◌, ◌-◌, ◌≤◌, List, ◌++◌, length, take, drop, replicate, arith, ap, ◌∙◌, sym, length-append, length-drop}
use Rattle.std.proofs.lemmas.List.{drop-drop, drop_at, drop-replicate, length-replicate, replicate-append-replicate, length-take-le}
use Rattle.pump_frame.proofs.payload.Payload.set.Goals as goal

zeros_past : (n len end : ℕ) (cells : List ℕ) → len ≤ end → drop len cells ≡ replicate (n - len) 0 → drop end cells ≡ replicate (n - end) 0
zeros_past n len end cells past zeros =
    let split : len + (end - len) ≡ end = omega arith in
    let left : n - len - (end - len) ≡ n - end = omega arith in
    let there : drop end cells ≡ drop (end - len) (drop len cells) = ap (λ m. drop m cells) (sym split) ∙ sym (drop-drop (end - len) len cells) in
    let filled : drop (end - len) (drop len cells) ≡ replicate (n - len - (end - len)) 0 = ap (drop (end - len)) zeros ∙ drop-replicate (end - len) (n - len) 0 in
    there ∙ filled ∙ ap (λ m. replicate m 0) left

-- the new bytes, then what was filled up to the old end, then what lay past it
after_writes : ℕ → ℕ → List ℕ → List ℕ → List ℕ
after_writes new end whole filled = take new whole ++ (filled ++ drop (end - new) (drop new whole))

zeros_after : (n new len end : ℕ) (prefix cells filled : List ℕ) → length prefix ≡ new → new ≤ end → len ≤ end → end ≤ n
    → filled ≡ replicate (end - new) 0 → drop len cells ≡ replicate (n - len) 0
    → drop new (after_writes new end (prefix ++ drop new cells) filled) ≡ replicate (n - new) 0
unfolding after_writes
zeros_after n new len end prefix cells filled fits within past last zero zeros =
    let whole = prefix ++ drop new cells in
    let long : new ≤ length whole = omega (arith, length-append prefix (drop new cells)) in
    let split : new + (end - new) ≡ end = omega arith in
    let all : end - new + (n - end) ≡ n - new = omega arith in
    let rest : drop (end - new) (drop new whole) ≡ replicate (n - end) 0 =
    ap (drop (end - new)) (drop_at prefix (drop new cells) new fits) ∙ drop-drop (end - new) new cells ∙ ap (λ m. drop m cells) split ∙ zeros_past n len end cells past zeros in
    drop_at (take new whole) _ new (length-take-le new whole long)
    ∙ ap (λ xs. filled ++ xs) rest ∙ ap (λ xs. xs ++ replicate (n - end) 0) zero
    ∙ replicate-append-replicate (end - new) (n - end) 0 ∙ ap (λ m. replicate m 0) all

filled_all : (n new end : ℕ) (prefix cells filled : List ℕ) → length prefix ≡ new → new ≤ end → end ≤ n → length cells ≡ n
    → filled ≡ replicate (length (take (end - new) (drop new (prefix ++ drop new cells)))) 0 → filled ≡ replicate (end - new) 0
filled_all n new end prefix cells filled fits within last whole is =
    is ∙ ap (λ m. replicate m 0) (length-take-le (end - new) _ (omega (arith, length-drop new (prefix ++ drop new cells), length-append prefix (drop new cells), length-drop new cells)))

whole_after : (n new end : ℕ) (prefix cells filled : List ℕ) → length prefix ≡ new → new ≤ end → end ≤ n → length cells ≡ n → filled ≡ replicate (end - new) 0
    → length (after_writes new end (prefix ++ drop new cells) filled) ≡ n
unfolding after_writes
whole_after n new end prefix cells filled fits within last whole zero =
    let all = prefix ++ drop new cells in
    let long : length all ≡ n = omega (arith, length-append prefix (drop new cells), length-drop new cells) in
    let some : length filled ≡ end - new = ap length zero ∙ length-replicate (end - new) 0 in
    omega (arith, length-append (take new all) (filled ++ drop (end - new) (drop new all)), length-take-le new all (omega arith), length-append filled (drop (end - new) (drop new all)), length-drop (end - new) (drop new all), length-drop new all)

pub invariant_of-self : goal.invariant_of-self
unfolding after_writes
invariant_of-self c =
    let cells = c.self.inside.cells in
    let new = length c.args.bytes.now in
    let end = c.max-end.result in
    let prefix = c.copy_from_slice.new.self in
    let most = c.max-end.ensures in
    let fits : length prefix ≡ new = ap length c.copy_from_slice.ensures.after in
    let within : new ≤ end = omega (arith, most) in
    let past : c.self.inside.len ≤ end = omega (arith, most) in
    let last : end ≤ 1024 = omega (arith, most, c.self.invariant.0, c.requires.short) in
    let filled = filled_all 1024 new end prefix cells c.fill.new.self fits within last c.self.invariant.1 (c.fill.ensures.after (λ y h. h)) in (
      c.requires.short,
      whole_after 1024 new end prefix cells c.fill.new.self fits within last c.self.invariant.1 filled,
      zeros_after 1024 new c.self.inside.len end prefix cells c.fill.new.self fits within past last filled c.self.invariant.2,
    )
