use Rattle.std.proofs.Common.{◌≡◌, ◌==◌, ℕ, true, List, [], ◌∷◌, drop, Option, Some, None, refl, sym, ◌∙◌, ap, subst, arith}
use Rattle.std.specs.Prelude.{codes, slice_get, slice_index_or}
use Rattle.std.specs.Int.{bit_at}
use Rattle.std.specs.Option.{IsSomeAnd}
use Rattle.std.proofs.lemmas.Bool.{and_parts}
use Rattle.std.proofs.lemmas.Bool.Decides.{nat_tests}
use Rattle.std.proofs.lemmas.Option.{slice_get_within}
use Rattle.units.specs.declared.disk.Serial.{Serial}
use Rattle.imsm_base.specs.Fields.{Part}
use Rattle.imsm_base.specs.Layout.{status_of}
use Rattle.imsm_base.specs.Parts.{block_in}
use Rattle.imsm_base.specs.Whole.{is_expected}
use Rattle.imsm_text.specs.Text.{serial_text}
use Rattle.generation_pick.specs.declared.fault.PickFault.{PickFault}
use Rattle.container.specs.declared.role.DiskRole.{DiskRole}
use Rattle.container.specs.declared.role.DiskRole.TheVariants as role
use Rattle.container.specs.declared.seen.Seen.{Seen}
use Rattle.container.specs.declared.verdict.Opening.{Opening}
use Rattle.container.specs.declared.verdict.Verdict.{Verdict}
use Rattle.container.specs.declared.verdict.Verdict.TheVariants.{Refused, Ready}
use Rattle.container.specs.Roles.{Expects, IsFirst, IsRole}
use Rattle.container.specs.Verdicts.{IsVerdictBy}
use Rattle.verdict_text.specs.Lines.{role_words}
use Rattle.refused_verdicts.specs.Wrong.{CallsFailed}
use Rattle.refused_verdicts.proofs.Assembled.{all_seen, assembled, by_block}
use Rattle.refused_verdicts.proofs.Places.{same_at}
use Rattle.verdict_lines_law.proofs.Tells.{apart}
use Rattle.refused_verdicts.proofs.Said.{line_of_verdict, says_disk}
use Rattle.refused_verdicts.proofs.openings.failed_members_are_refused.Goals as goal

ready_not_refused : (v : Verdict) (o : Opening) (fault : PickFault) → v ≡ Ready o → v ≡ Refused fault → ⊥
ready_not_refused v o fault ready refused = let same : Ready o ≡ Refused fault = sym ready ∙ refused in cc same

-- a record that is marked as failed isn't expected
not_expected : (entry : Part) → bit_at (status_of entry) 2 ≡ 1 → is_expected entry ≡ true → ⊥
not_expected entry failed expected =
    let none : (bit_at (status_of entry) 2 == 0) ≡ true = (and_parts (bit_at (status_of entry) 1 == 1) (bit_at (status_of entry) 2 == 0) expected).1 in
    let clear : bit_at (status_of entry) 2 ≡ 0 = grind (arith, nat_tests, none) in
    omega (arith, failed, clear)

not_first : (bytes : List ℕ) (s : Serial) (i : ℕ) → CallsFailed bytes s → IsFirst (Expects s.0) (block_in bytes).disks i → ⊥
not_first bytes s i failed first = at (slice_get (block_in bytes).disks i) refl first.here where
  at : (o : Option Part) → slice_get (block_in bytes).disks i ≡ o → IsSomeAnd o (Expects s.0) → ⊥
  at None is there = there
  at (Some entry) is there = not_expected entry (failed i entry is there.1) there.0

not_member : (bytes : List ℕ) (s : Serial) (t : Seen) (r : DiskRole) → CallsFailed bytes s → t.serial ≡ s → role_words r ≡ codes "member" ∷ [] → IsRole (block_in bytes) t r → ⊥
not_member bytes s t (role.Member i) failed named says is = not_first bytes s i failed (subst (λ (x : Serial). IsFirst (Expects x.0) (block_in bytes).disks i) named is)
not_member bytes s t (role.Failed i) failed named says is = apart (role_words (role.Failed i)) (codes "member" ∷ []) 102 109 refl refl (λ e. omega (arith, e)) says
not_member bytes s t role.Spare failed named says is = apart (role_words role.Spare) (codes "member" ∷ []) 115 109 refl refl (λ e. omega (arith, e)) says
not_member bytes s t role.Stranger failed named says is = apart (role_words role.Stranger) (codes "member" ∷ []) 115 109 refl refl (λ e. omega (arith, e)) says
not_member bytes s t role.Blank failed named says is = apart (role_words role.Blank) (codes "member" ∷ []) 98 109 refl refl (λ e. omega (arith, e)) says
not_member bytes s t (role.Torn fault) failed named says is = apart (role_words (role.Torn fault)) (codes "member" ∷ []) 116 109 refl refl (λ e. omega (arith, e)) says
not_member bytes s t role.Unread failed named says is = apart (role_words role.Unread) (codes "member" ∷ []) 117 109 refl refl (λ e. omega (arith, e)) says

some_role : (o : Option DiskRole) (r : DiskRole) (P : DiskRole → Type 0) → o ≡ Some r → IsSomeAnd o P → P r
some_role o r P is there = subst (λ (x : Option DiskRole). IsSomeAnd x P) is there

pub returns : goal.returns
returns c opening log bank bytes lines run status k s tells newest named failed has does =
    let (o, ready, disk) = says_disk bank.serials bank.serials _ does.verdict refl (line_of_verdict bank.serials bank.serials does.verdict lines _ 100 does.lines_are refl (omega arith) has) in
    let by = by_block opening log bank tells bytes newest run lines status does (λ fault is. ready_not_refused does.verdict o fault ready is) in
    let opened = (subst (IsVerdictBy bytes by.pick does.seen run by.missing) ready by.says).2 in
    let printed : serial_text disk.serial ≡ serial_text s = ap (λ (ws : List (List ℕ)). slice_index_or ws 1 []) disk.says in
    let place : disk.place ≡ k = tells.own disk.place k disk.serial s disk.named named printed in
    let same : disk.serial ≡ s = same_at bank.serials k disk.serial s (subst (λ (i : ℕ). slice_get bank.serials i ≡ Some disk.serial) place disk.named) named in
    let t = all_seen opening log bank tells run lines status does disk.place (slice_get_within bank.serials disk.place disk.serial disk.named) in
    let seen_so = (assembled opening log bank tells run lines status does).each disk.place t.0 t.1 in
    let serial : t.0.serial ≡ s = same_at bank.serials disk.place t.0.serial disk.serial seen_so.serial disk.named ∙ same in
    not_member bytes s t.0 disk.role failed serial (ap (drop 2) disk.says) (some_role _ disk.role (IsRole (block_in bytes) t.0) disk.there (opened.disks.each disk.place t.0 t.1))
