-- What new disks stand for.
use Rattle.std.proofs.Common.{◌≡◌, ℕ, ◌-◌, ◌≤◌, List, [], length, replicate, refl, sym, ◌∙◌, subst, arith, length-append}
use Rattle.std.proofs.lemmas.List.{take_at, length-replicate}
use Rattle.std.proofs.lemmas.List.Elements.{All-nil}
use Rattle.disk_model.specs.Disk.{Meaning}
use Rattle.disk_model.specs.declared.name.Role.{Role}
use Rattle.disk_model.specs.declared.name.Role.TheVariants.{Low, High, Recv}
use Rattle.pump_frame.specs.Rows.{IsLawfulRow}
use Rattle.pump_frame.specs.declared.payload.Payload.{Payload}
use Rattle.pump_frame.specs.declared.row.SessionRow.{SessionRow}
use Rattle.stable_buffer.specs.Format.{FormatStands, header_of, new_bytes, role_byte, second_of, size_of}
use Rattle.stable_buffer.proofs.Fresh.{fresh_stands, header_length}
use Rattle.script_reader.specs.Openings.{nothing_found}
use Rattle.two_worlds.specs.Openings.{StandForFound, DisksStandFor, readied}

whole : (row : SessionRow) (role : Role) → 80 ≤ size_of row role
whole row Low = omega arith
whole row High = omega arith
whole row Recv = omega arith

new_stands : (row : SessionRow) (role : Role) → FormatStands row role 0 (new_bytes row role 0)
new_stands row role =
    let prefix = header_of row (role_byte role) 0 (second_of role) in
    let rest : List ℕ = replicate (size_of row role - 80) 0 in
    let size = header_length row (role_byte role) 0 (second_of role) in
    let left = length-replicate {A = ℕ} (size_of row role - 80) 0 in
    fresh_stands row role 0 (new_bytes row role 0) (omega arith) (λ is. refl) (take_at prefix rest 80 size) (length-append prefix rest ∙ omega (arith, size, left, whole row role))

pub nothing_stands : (row : SessionRow) → IsLawfulRow row → StandForFound row nothing_found (new_bytes row Low 0) (new_bytes row High 0) (new_bytes row Recv 0)
nothing_stands row lawful = record {
  can_open = record {
    agree = record { taken = omega arith; fits = omega arith };
    count = omega arith;
    end = omega arith;
    short = All-nil (λ (message : Payload). length message ≤ row.message);
  };
  low_is = new_stands row Low;
  high_is = new_stands row High;
  recv_is = new_stands row Recv;
}

-- three empty disks stand for nothing once they are formatted
pub empty_disks : {D : Type 0} (m : Meaning D) (row : SessionRow) (low high recv : D) → IsLawfulRow row → m.reading low ≡ [] → m.reading high ≡ [] → m.reading recv ≡ [] → DisksStandFor m row low high recv nothing_found
empty_disks m row low high recv lawful a b c =
    subst (λ (v : List ℕ × List ℕ × List ℕ). StandForFound row nothing_found (readied row Low v.0) (readied row High v.1) (readied row Recv v.2)) (λ i. (sym a i, sym b i, sym c i)) (nothing_stands row lawful)
