-- What the registers of new disks hold.
use Rattle.std.proofs.Common.{◌≡◌, ℕ, ◌-◌, List, [], drop, ap, ◌∙◌, arith, length-take, length-drop}
use Rattle.disk_model.specs.declared.name.Role.{Role}
use Rattle.disk_model.specs.declared.name.Role.TheVariants.{Low, High, Recv}
use Rattle.pump_frame.specs.declared.row.SessionRow.{SessionRow}
use Rattle.stable_buffer.specs.Format.{FormatStands, second_of}
use Rattle.stable_buffer.specs.Register.{value_of}
use Rattle.stable_buffer.specs.Log.{RecvStands}

-- the records of no messages end where they begin
no_records : (row : SessionRow) (disk : List ℕ) (s : RecvStands row [] disk) → s.end ≡ 80
no_records row disk s =
    let records = s.records in
    let taken = length-take (s.end - 80) (drop 80 disk) in
    let dropped = length-drop 80 disk in
    omega (arith, records, taken, dropped, s.from, s.within)

pub new_value : (row : SessionRow) (role : Role) (disk : List ℕ) → FormatStands row role 0 disk → value_of disk ≡ (0, second_of role)
new_value row Low disk s = s.value
new_value row High disk s = s.value
new_value row Recv disk s = s.value ∙ ap (λ (n : ℕ). (0, n)) (no_records row disk s)
