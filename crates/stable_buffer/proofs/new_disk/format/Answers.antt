use Rattle.std.proofs.Common.{◌≡◌, ℕ, ◌-◌, ◌++◌, length, take, replicate, ◌∙◌, ap, arith, length-append}
use Rattle.std.proofs.lemmas.Grind.{common_steps}
use Rattle.std.proofs.lemmas.List.{take_at, length-replicate}
use Rattle.stable_buffer.specs.Format.{header_of, role_byte, second_of, size_of}
use Rattle.stable_buffer.proofs.Fresh.{fresh_stands, holds_empty, header_length}
use Rattle.stable_buffer.proofs.new_disk.format.Goals as goal

pub returns-clause-bytes : goal.returns-clause-bytes
returns-clause-bytes g c = λ told.
    let m = g.D.Disk.told in
    let prefix = header_of c.args.row.now (role_byte c.args.role) c.args.count (second_of c.args.role) in
    let first : m.reading c.write.new.disk ≡ prefix =
    holds_empty (m.reading c.args.disk.now) c.header-prefix.result (m.reading c.write.new.disk) (c.requires.empty told) (c.in_ok-write.ensures.written told) ∙ c.header-prefix.ensures
    ∙ (λ i. header_of c.args.row.now (role_byte c.args.role) c.args.count (c.second.ensures i)) in
    c.sync.ensures.moves.reads told ∙ c.in_ok-fill_zeros.ensures.zeros told ∙ (λ i. first i ++ replicate (c.disk_size.ensures.size i - 80) 0)

pub returns-clause-stands : goal.returns-clause-stands
returns-clause-stands g c = λ told.
    let row = c.args.row.now in
    let role = c.args.role in
    let disk = g.D.Disk.told.reading c.sync.new.disk in
    let prefix = header_of row (role_byte role) c.args.count (second_of role) in
    let rest = replicate (size_of row role - 80) 0 in
    let bytes : disk ≡ prefix ++ rest = returns-clause-bytes g c told in
    let size = header_length row (role_byte role) c.args.count (second_of role) in
    let left = length-replicate {A = ℕ} (size_of row role - 80) 0 in
    let all : length (prefix ++ rest) ≡ size_of row role = omega (arith, length-append prefix rest, size, left, c.disk_size.ensures.whole, c.disk_size.ensures.size) in
    fresh_stands row role c.args.count disk c.requires.count c.requires.receiver (ap (take 80) bytes ∙ take_at prefix rest 80 size) (ap length bytes ∙ all)

pub fill_zeros-requires-clause-starts : goal.fill_zeros-requires-clause-starts
fill_zeros-requires-clause-starts g c = grind (arith, common_steps)

pub fill_zeros-requires-clause-calm : goal.fill_zeros-requires-clause-calm
fill_zeros-requires-clause-calm g c = grind (arith, common_steps)

pub returns-clause-answers : goal.returns-clause-answers
returns-clause-answers g c = grind (arith, common_steps)

pub returns-in_err-fill_zeros-clause-answers : goal.returns-in_err-fill_zeros-clause-answers
returns-in_err-fill_zeros-clause-answers g c = grind (arith, common_steps)

pub returns-in_err-sync-clause-answers : goal.returns-in_err-sync-clause-answers
returns-in_err-sync-clause-answers g c = grind (arith, common_steps)
