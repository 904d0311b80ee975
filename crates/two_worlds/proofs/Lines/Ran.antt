-- A line that can be applied, from the part of it that carried it out.
use Rattle.std.proofs.Common.{◌≡◌, ℕ, ◌≤◌, Bool, true, false, List, [], Result, Err, refl, inl, sym, ap, ◌∙◌, subst}
use Rattle.std.specs.Prelude.{◌&&◌, ◌==◌, nat_le}
use Rattle.std.proofs.lemmas.Bool.{and_parts, eqb-true, eq-eqb, le-leb}
use Rattle.disk_model.specs.Disk.{Meaning}
use Rattle.script_reader.specs.declared.event.Event.{Event}
use Rattle.script_reader.specs.declared.event.EventHead.{EventHead}
use Rattle.script_reader.specs.declared.line.Line.{Line as ScriptLine}
use Rattle.two_worlds.specs.declared.applied.Stop.{Stop}
use Rattle.two_worlds.specs.declared.applied.Stop.TheVariants.{Line}
use Rattle.two_worlds.specs.declared.pump.parts.Parts.{Parts}
use Rattle.two_worlds.specs.Timely.{is_timely_by, IsUncrowdedBy}
use Rattle.two_worlds.specs.Printing.{lines_in}
use Rattle.two_worlds.specs.Working.{IsAble}
use Rattle.two_worlds.specs.Private.GoingOn.{WorksOn}
use Rattle.two_worlds.specs.Private.LineSteps.{Ran, Tried, Runs, RefusesAhead}
use Rattle.two_worlds.specs.Private.Serving.{DisksServe}
use Rattle.two_worlds.proofs.Disks.Together.{serve_none}
use Rattle.two_worlds.proofs.Lines.On.{runs_on, attempts_on}
use Rattle.two_worlds.proofs.Lines.Timely.{untimely, attempted}

-- what comes with the line has room, and a part of it carried it out
pub ran_by : {D : Type 0} (m : Meaning D) (c d : Parts D) (line : ScriptLine) (out now : List Event) (result : Result (Unit {0}) Stop) → IsUncrowdedBy c line
    → Runs m c d line out now result → WorksOn m d result → RefusesAhead c d line out now → DisksServe m c d result → d.row ≡ c.row
    → Ran m c d line out now result
ran_by m c d line out now result room runs works ahead serve row = record {
  runs = runs;
  on = runs_on m c d line out now result room works;
  ahead = ahead;
  serve = serve;
  row = row;
}

-- what the test says of one line it says of the other, which it is
pub test_as : {D : Type 0} (c : Parts D) (answer : Bool) (line own : ScriptLine) → line ≡ own → is_timely_by c own ≡ answer → is_timely_by c line ≡ answer
test_as c answer line own is test = ap (λ (l : ScriptLine). is_timely_by c l) is ∙ test

-- the list was cleared first
module _ {D : Type 0} (m : Meaning D) (c : Parts D) (line : ScriptLine) (heads : List EventHead) (clear : heads ≡ []) where
  -- what was carried out is the line
  pub tried : (d : Parts D) (now : List Event) (result : Result (Unit {0}) Stop) (own : ScriptLine) → line ≡ own → is_timely_by c line ≡ true
      → Ran m c d own (lines_in heads) now result → Tried m c d line now result
  tried d now result own is timely ran =
      let of_own = test_as c true own line (sym is) timely in
      let r = subst (λ (l : List EventHead). Ran m c d own (lines_in l) now result) clear ran in
      subst (λ (l : ScriptLine). Tried m c d l now result) (sym is)
      (record {
        attempts = attempted m c own [] d now result of_own r.runs;
        on = attempts_on m c d own [] now result of_own r.on;
        ahead = r.ahead;
        serve = r.serve;
        row = r.row;
      })

  -- nothing was done
  pub refused : IsAble m c → is_timely_by c line ≡ false → Tried m c c line (lines_in heads) (Err Line)
  refused able late =
      subst (λ (l : List EventHead). Tried m c c line (lines_in l) (Err Line)) (sym clear)
      (record {
        attempts = untimely m c line [] late;
        on = (refl, refl, inl late);
        ahead = λ is. (refl, refl);
        serve = serve_none m c able c.connection;
        row = refl;
      })

-- a line of the parts' own session whose moment does not fall
module _ {D : Type 0} (c : Parts D) (moment : ℕ) (order : c.moment ≤ moment) where
  pub on_time : (c.row.id == c.row.id && nat_le c.moment moment) ≡ true
  on_time = rw (eq-eqb c.row.id c.row.id refl, le-leb c.moment moment order) refl

  pub on_time_and : (more : Bool) → (c.row.id == c.row.id && (nat_le c.moment moment && more)) ≡ more
  on_time_and more = rw (eq-eqb c.row.id c.row.id refl, le-leb c.moment moment order) refl

-- the test names the session
pub own_session : {D : Type 0} (c : Parts D) (session : ℕ) (more : Bool) → true ≡ (session == c.row.id && more) → session ≡ c.row.id
own_session c session more test = eqb-true session c.row.id (and_parts (session == c.row.id) more (sym test)).0
