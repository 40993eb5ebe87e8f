use Rattle.std.proofs.Common.{◌≡◌, ◌≢◌, ◌≤◌, ℕ, Bool, true, false, cond, List, [], ◌∷◌, map, refl, sym, ◌∙◌, ap, subst}
use Rattle.std.specs.Prelude.{Contains, codes, slice_index}
use Rattle.std.proofs.lemmas.List.Elements.{Contains-append_left, Contains-append_right}
use Rattle.std.proofs.lemmas.Option.{slice_get_within}
use Rattle.units.specs.declared.disk.Sector.{Sector}
use Rattle.units.specs.declared.disk.Serial.{Serial}
use Rattle.imsm_base.specs.Fields.{Part}
use Rattle.imsm_base.specs.Layout.{serial_of, total_blocks_of, volume_count_of}
use Rattle.imsm_base.specs.Parts.{block_in}
use Rattle.imsm_base.specs.Whole.{standing}
use Rattle.mpb_store.specs.declared.answer.Found.TheVariants as found
use Rattle.generation_pick.specs.declared.fault.PickFault.{PickFault}
use Rattle.generation_pick.specs.declared.found.Pick.{Pick}
use Rattle.container.specs.declared.missing.Lack.{Lack}
use Rattle.container.specs.declared.missing.Lack.TheVariants as lack
use Rattle.container.specs.declared.missing.Missing.{Missing}
use Rattle.container.specs.declared.seen.Seen.{Seen}
use Rattle.container.specs.declared.verdict.Verdict.{Verdict}
use Rattle.container.specs.declared.verdict.Verdict.TheVariants.{Refused, Large, GenerationEnd, Waiting, Ready}
use Rattle.container.specs.Lacking.{Lacks}
use Rattle.container.specs.Seen.{IsSpare}
use Rattle.container.specs.Verdicts.{IsVerdictBy}
use Rattle.container.specs.Volumes.{is_any_started}
use Rattle.container.proofs.Lists.{contains_map}
use Rattle.assembly.specs.Seen.{bytes_of, found_of}
use Rattle.image_outside.specs.Told.{BankTold}
use Rattle.verdict_text.specs.Status.{verdict_status}
use Rattle.verdict_lines_law.specs.Words.{family_says, verdict_words, waiting_says, words_in}
use Rattle.verdict_lines_law.proofs.Spelled.{verdict_read}
use Rattle.refused_verdicts.specs.Told.{HoldsSpare, stood_on}
use Rattle.refused_verdicts.specs.Told.IsOfNoUse.{Absent}
use Rattle.refused_verdicts.specs.Wrong.{waits_line}
use Rattle.refused_verdicts.proofs.Assembled.{all_seen, assembled, by_block, is_listed_so}
use Rattle.refused_verdicts.proofs.Causes.{lacks_blank, lacks_nothing, lacks_spare, lacks_torn, lacks_unread, waits_by}
use Rattle.refused_verdicts.proofs.Lacking.{unread_seen}
use Rattle.refused_verdicts.proofs.Newest.{as_unread, as_whole, container_seen, found_so, well_read}
use Rattle.refused_verdicts.proofs.OneSeen.{unread_found}
use Rattle.refused_verdicts.proofs.Places.{at_place}
use Rattle.refused_verdicts.proofs.Seeing.{IsSeenSo}
use Rattle.refused_verdicts.proofs.lines.wrong_causes_are_refused.Goals as goal

pub returns-clause-torn : goal.returns-clause-torn
returns-clause-torn c opening log bank bytes lines run status k s fault cause tells newest holds none by_name differs has does =
    let waits = waits_by opening log bank tells bytes newest run lines status does s cause by_name has in
    let so = assembled opening log bank tells run lines status does in
    let t = all_seen opening log bank tells run lines status does k (slice_get_within bank.serials k s holds.named) in
    let is = found_so opening bank k t.0 (so.each k t.0 t.1) s (found.Torn fault) (well_read opening bank k t.0 (so.each k t.0 t.1) none) holds in
    differs (sym waits.printed ∙ lacks_torn opening log bank tells does.seen so k s holds.named t.0 t.1 waits.entry waits.same fault is waits.lacking waits.lacks)

pub returns-clause-blank : goal.returns-clause-blank
returns-clause-blank c opening log bank bytes lines run status k s cause tells newest holds none by_name differs has does =
    let waits = waits_by opening log bank tells bytes newest run lines status does s cause by_name has in
    let so = assembled opening log bank tells run lines status does in
    let t = all_seen opening log bank tells run lines status does k (slice_get_within bank.serials k s holds.named) in
    let is = found_so opening bank k t.0 (so.each k t.0 t.1) s found.Blank (well_read opening bank k t.0 (so.each k t.0 t.1) none) holds in
    differs (sym waits.printed ∙ lacks_blank opening log bank tells does.seen so k s holds.named t.0 t.1 waits.entry waits.same is waits.lacking waits.lacks)

-- a spare was seen as one
spare_seen : (opening : List (List Sector)) (bank : BankTold) (k : ℕ) (s : Serial) (t : Seen) → IsSeenSo opening bank k t → bank.faults k ≡ 0 → HoldsSpare opening bank k s → IsSpare t.holds
spare_seen opening bank k s t so none holds =
    let is = found_so opening bank k t so s found.Whole (well_read opening bank k t so none) holds.whole in
    let whole = as_whole t.holds is in
    let bytes : standing (slice_index bank.sizes k) (stood_on opening k) ≡ whole.0.bytes = sym (so.stands.loaded is) ∙ ap bytes_of whole.1 in
    record { block = whole.0; whole = whole.1; none = subst (λ (b : List ℕ). volume_count_of (block_in b) ≡ 0) bytes holds.none }

pub returns-clause-spare : goal.returns-clause-spare
returns-clause-spare c opening log bank bytes lines run status k s cause tells newest holds none by_name differs has does =
    let waits = waits_by opening log bank tells bytes newest run lines status does s cause by_name has in
    let so = assembled opening log bank tells run lines status does in
    let t = all_seen opening log bank tells run lines status does k (slice_get_within bank.serials k s holds.whole.named) in
    let is = spare_seen opening bank k s t.0 (so.each k t.0 t.1) none holds in
    differs (sym waits.printed ∙ lacks_spare opening log bank tells does.seen so k s holds.whole.named t.0 t.1 waits.entry waits.same is waits.lacking waits.lacks)

pub returns-clause-unread : goal.returns-clause-unread
returns-clause-unread c opening log bank bytes lines run status k s call cause tells newest named there on lost by_name differs has does =
    let waits = waits_by opening log bank tells bytes newest run lines status does s cause by_name has in
    let so = assembled opening log bank tells run lines status does in
    let t = all_seen opening log bank tells run lines status does k (slice_get_within bank.serials k s named) in
    let is = as_unread t.0.holds (unread_found (found_of t.0.holds) (unread_seen opening log bank tells does.seen so k call t.0 there on lost t.1)) in
    differs (sym waits.printed ∙ lacks_unread opening log bank tells does.seen so k s named t.0 t.1 waits.entry waits.same is waits.lacking waits.lacks)

pub returns-clause-whole : goal.returns-clause-whole
returns-clause-whole c opening log bank bytes own lines run status k s cause tells newest holds none by_name large has does =
    let waits = waits_by opening log bank tells bytes newest run lines status does s cause by_name has in
    let so = assembled opening log bank tells run lines status does in
    let t = all_seen opening log bank tells run lines status does k (slice_get_within bank.serials k s holds.whole.named) in
    let is = so.each k t.0 t.1 in
    let container = (container_seen opening bank k t.0 is s own none holds).0 in
    lacks_nothing opening log bank tells does.seen so k s holds.whole.named t.0 t.1 waits.entry waits.same container
    (subst (λ (n : ℕ). total_blocks_of waits.entry ≤ n) (sym is.sectors) (large waits.place waits.entry waits.there waits.same)) waits.lacking waits.lacks

-- a verdict of status 2 waits, and lists what lacks
lists : (bytes : List ℕ) (p : Pick) (seen : List Seen) (run : Bool) (missing : List Missing) (v : Verdict) (serials present : List Serial) → 2 ≡ verdict_status v → IsVerdictBy bytes p seen run missing v
    → (m : Missing) → Contains missing m → Contains (verdict_words serials present v) (waiting_says m)
lists bytes p seen run missing (Refused fault) serials present two is m there = absurd is
lists bytes p seen run missing (Large f g s) serials present two is m there = absurd (cc two)
lists bytes p seen run missing (GenerationEnd f g) serials present two is m there = absurd (cc two)
lists bytes p seen run missing (Waiting f g list) serials present two is m there =
    Contains-append_right (family_says f g ∷ []) (map waiting_says list.items) (waiting_says m)
    (contains_map waiting_says list.items m (subst (λ (l : List Missing). Contains l m) (sym is.3) there))
lists bytes p seen run missing (Ready o) serials present two is m there = absurd (at (is_any_started o.volumes.items) two) where
  at : (b : Bool) → ◌≡◌ {A = ℕ} 2 (cond b 0 3) → ⊥
  at true two = cc two
  at false two = cc two

not_refused : (v : Verdict) (fault : PickFault) → 2 ≡ verdict_status v → v ≡ Refused fault → ⊥
not_refused v fault two is = let three : 2 ≡ verdict_status (Refused fault) = subst (λ (w : Verdict). 2 ≡ verdict_status w) is two in cc three

-- a record's disk that isn't there lacks as absent
absent_lacks : (seen : List Seen) (entry : Part) (none : (t : Seen) → Contains seen t → t.serial.0 ≢ serial_of entry) (cause : Lack) → Lacks seen entry cause → cause ≡ lack.Absent
absent_lacks seen entry none lack.Absent lacks = refl
absent_lacks seen entry none lack.Blank lacks = absurd (none lacks.disk lacks.there lacks.named)
absent_lacks seen entry none lack.Spare lacks = absurd (none lacks.disk lacks.there lacks.named)
absent_lacks seen entry none lack.Unread lacks = absurd (none lacks.disk lacks.there lacks.named)
absent_lacks seen entry none (lack.Torn fault) lacks = absurd (none lacks.disk lacks.there lacks.named)

missing_is : (m : Missing) (serial : List ℕ) → m.serial.0 ≡ serial → m.cause ≡ lack.Absent → waiting_says m ≡ waits_line (record { 0 = serial }) (codes "absent" ∷ [])
missing_is m serial named is =
    ap (λ (l : List ℕ). waiting_says (record { serial = record { 0 = l }; cause = m.cause })) named
    ∙ ap (λ (x : Lack). waiting_says (record { serial = record { 0 = serial }; cause = x })) is

pub returns-clause-absent : goal.returns-clause-absent
returns-clause-absent c opening log bank bytes lines run entry tells newest expects absent unsaid does =
    let so = assembled opening log bank tells run lines 2 does in
    let by = by_block opening log bank tells bytes newest run lines 2 does (λ fault is. not_refused does.verdict fault does.status_is is) in
    let (m, there, lacks) = is_listed_so opening log bank tells does.seen so bytes entry expects (Absent absent) by.missing by.lack in
    let none : (t : Seen) → Contains does.seen t → t.serial.0 ≢ serial_of entry = λ t t_there named. let at = at_place does.seen t t_there in absent at.0 t.serial (so.each at.0 t at.1).serial named in
    let is = missing_is m (serial_of entry) lacks.serial (absent_lacks does.seen entry none m.cause lacks.cause) in
    let said = lists bytes by.pick does.seen run by.missing does.verdict bank.serials bank.serials does.status_is by.says m there in
    unsaid
    (subst (λ (l : List (List (List ℕ))). Contains l (waits_line (record { 0 = serial_of entry }) (codes "absent" ∷ []))) (sym (ap words_in does.lines_are ∙ verdict_read bank.serials bank.serials does.verdict))
    (Contains-append_left (verdict_words bank.serials bank.serials does.verdict) (([] ∷ []) ∷ []) _ (subst (Contains (verdict_words bank.serials bank.serials does.verdict)) is said)))
