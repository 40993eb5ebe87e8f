use Rattle.std.proofs.Common.{◌≡◌, ◌≤◌, ◌+◌, ℕ, Bool, true, false, length, refl, sym, ◌∙◌, ap, subst, arith}
use Rattle.imsm_base.specs.Layout.{Block, Volume}
use Rattle.imsm_base.specs.Volumes.{is_unfinished, has_pass, wants_pass}
use Rattle.imsm_base.specs.Edits.{volume_with_dirty, block_with_dirty}
use Rattle.imsm_base.specs.EditsOfTables.{with_volume, volume_with_pass, volume_without_migration}
use Rattle.imsm_codec.specs.Mpb.{volume_at}
use Rattle.imsm_codec.proofs.Found.{volumes_counted, maps_counted}
use Rattle.imsm_buffer.specs.Buffer.{parts_of}
use Rattle.imsm_view.specs.Questions.{HasWords}
use Rattle.imsm_view.proofs.Words.{words_from}
use Rattle.imsm_edit.specs.Meanings.{edited, with_states, is_told}
use Rattle.imsm_edit.specs.Passes.{with_migration, has_to_rebuild}
use Rattle.imsm_edit.proofs.Changes.{dirty_is}
use Rattle.imsm_edit.proofs.Told.{told_of, slots_told, open_told, pass_open, pass_closed}
use Rattle.imsm_edit.proofs.Opened.{slots_stay, opened, long_state}
use Rattle.imsm_edit.proofs.Started.{resync_is, dirty_open, rebuild_wanted, rebuild_not, clean_opened, resync_started, rebuild_started, closed_started, idle_started, was_opened, was_left}
use Rattle.imsm_base.specs.Volumes.{first_map}
use Rattle.imsm_base.specs.Parts.{map_room}
use Rattle.std.specs.Prelude.{◌⊎◌, ◌||◌, ◌/◌, if◌then◌else◌}
use Rattle.std.proofs.Common.{inl, rules}
use Rattle.std.proofs.lemmas.Bool.{false≢true}
use Rattle.imsm_edit.proofs.passes.start_edit.Goals as goal

pub returns-in_err-open_wanted-clause-variant : goal.returns-in_err-open_wanted-clause-variant
returns-in_err-open_wanted-clause-variant c =
    let b : Block = parts_of c.args.book.now in
    let v : Volume = volume_at c.args.v.0 b in
    let wanted : c.wants_pass-wanted.result ≡ wants_pass b v = c.wants_pass-wanted.ensures ∙ (words_from b v c.view_of-view.result c.view_of-view.ensures).wants in
    let refused : (wants_pass b v ≡ false) ⊎ ((has_pass v ≡ true) ⊎ (length c.args.book.now.bytes + map_room (first_map v) ≤ c.args.book.now.room)) → ⊥ =
    λ x. false≢true (c.in_err-open_wanted.ensures.variant.1 (subst (λ (t : Bool). (t ≡ false) ⊎ ((has_pass v ≡ true) ⊎ (length c.args.book.now.bytes + map_room (first_map v) ≤ c.args.book.now.room))) (sym wanted) x)) in
    search (rules, refused)

-- a volume that is unfinished, or not and to be rebuilt, wants a pass
unfinished_wants : (b : Block) (v : Volume) (wanted : Bool) → wanted ≡ wants_pass b v → is_unfinished v ≡ true → wanted ≡ true
unfinished_wants b v wanted is unfinished = is ∙ ap (λ (t : Bool). t || has_to_rebuild b v) unfinished

-- what was opened, and made clean
opened_clean : (b c d : Block) (k : ℕ) (wanted : Bool) → wanted ≡ true → c ≡ (if wanted then with_volume k with_migration b else b) → d ≡ block_with_dirty c k false → d ≡ with_volume k (λ x. volume_with_dirty false (with_migration x)) b
opened_clean b c d k wanted is opened_one cleaned =
    clean_opened b c d k (was_opened wanted (with_volume k with_migration b) b c opened_one is) (cleaned ∙ dirty_is c k false)

pub set_open_pass-requires-clause-open : goal.set_open_pass-requires-clause-open
set_open_pass-requires-clause-open c =
    let b : Block = parts_of c.args.book.now in
    let v : Volume = volume_at c.args.v.0 b in
    let count = volumes_counted c.args.book.now.bytes in
    let words : HasWords b v c.view_of-view.result = words_from b v c.view_of-view.result c.view_of-view.ensures in
    let wanted = unfinished_wants b v c.wants_pass-wanted.result (c.wants_pass-wanted.ensures ∙ words.wants) (sym words.unfinished ∙ sym c.unfinished.ensures ∙ c.if-unfinished.true) in
    open_told b (parts_of c.set_dirty.new.self) c.args.v.0 (λ x. volume_with_dirty false (with_migration x)) (omega arith)
    (opened_clean b (parts_of c.open_wanted.new.book) (parts_of c.set_dirty.new.self) c.args.v.0 c.wants_pass-wanted.result wanted c.in_ok-open_wanted.ensures.block c.set_dirty.ensures.block)
    (dirty_open false (with_migration v) ∙ opened v (long_state c.args.book.now.bytes c.args.v.0 c.requires.volume))

pub set_open_pass-requires-clause-slots : goal.set_open_pass-requires-clause-slots
set_open_pass-requires-clause-slots c =
    let b : Block = parts_of c.args.book.now in
    let v : Volume = volume_at c.args.v.0 b in
    let count = volumes_counted c.args.book.now.bytes in
    let words : HasWords b v c.view_of-view.result = words_from b v c.view_of-view.result c.view_of-view.ensures in
    let wanted = unfinished_wants b v c.wants_pass-wanted.result (c.wants_pass-wanted.ensures ∙ words.wants) (sym words.unfinished ∙ sym c.unfinished.ensures ∙ c.if-unfinished.true) in
    slots_told b (parts_of c.set_dirty.new.self) c.args.v.0 (λ x. volume_with_dirty false (with_migration x)) c.view_of-view.result c.view_of-view.ensures (omega arith)
    (opened_clean b (parts_of c.open_wanted.new.book) (parts_of c.set_dirty.new.self) c.args.v.0 c.wants_pass-wanted.result wanted c.in_ok-open_wanted.ensures.block c.set_dirty.ensures.block)
    (slots_stay v (maps_counted c.args.book.now.bytes c.args.v.0 c.requires.volume))

pub returns-then-unfinished-clause-block : goal.returns-then-unfinished-clause-block
returns-then-unfinished-clause-block c =
    let b : Block = parts_of c.args.book.now in
    let v : Volume = volume_at c.args.v.0 b in
    let words : HasWords b v c.view_of-view.result = words_from b v c.view_of-view.result c.view_of-view.ensures in
    let unfinished : is_unfinished v ≡ true = sym words.unfinished ∙ sym c.unfinished.ensures ∙ c.if-unfinished.true in
    let wanted = unfinished_wants b v c.wants_pass-wanted.result (c.wants_pass-wanted.ensures ∙ words.wants) unfinished in
    resync_started b (parts_of c.open_wanted.new.book) (parts_of c.set_dirty.new.self) (parts_of c.set_open_pass.new.book) c.args.v.0 c.resync_type-kind.result (c.pass_start-unit.result / 128) (is_told c.args.facts.now.broken.items c.args.v.0)
    unfinished
    (c.resync_type-kind.ensures ∙ resync_is b v c.view_of-view.result (told_of b v c.view_of-view.result c.view_of-view.ensures) c.view_of-view.ensures.state)
    (ap (λ (n : ℕ). n / 128) (c.pass_start-unit.ensures ∙ words.start))
    (was_opened c.wants_pass-wanted.result (with_volume c.args.v.0 with_migration b) b (parts_of c.open_wanted.new.book) c.in_ok-open_wanted.ensures.block wanted)
    (c.set_dirty.ensures.block ∙ dirty_is (parts_of c.open_wanted.new.book) c.args.v.0 false)
    (subst (λ (t : Bool). parts_of c.set_open_pass.new.book ≡ edited (parts_of c.set_dirty.new.self) c.args.v.0 t (volume_with_pass c.resync_type-kind.result (c.pass_start-unit.result / 128))) c.is_broken-broken.ensures c.set_open_pass.ensures.block)

pub set_open_pass-requires-then-wanted-clause-open : goal.set_open_pass-requires-then-wanted-clause-open
set_open_pass-requires-then-wanted-clause-open c =
    let b : Block = parts_of c.args.book.now in
    let count = volumes_counted c.args.book.now.bytes in
    open_told b (parts_of c.open_wanted.new.book) c.args.v.0 with_migration (omega arith)
    (was_opened c.wants_pass-wanted.result (with_volume c.args.v.0 with_migration b) b (parts_of c.open_wanted.new.book) c.in_ok-open_wanted.ensures.block c.if-wanted.true)
    (opened (volume_at c.args.v.0 b) (long_state c.args.book.now.bytes c.args.v.0 c.requires.volume))

pub set_open_pass-requires-then-wanted-clause-slots : goal.set_open_pass-requires-then-wanted-clause-slots
set_open_pass-requires-then-wanted-clause-slots c =
    let b : Block = parts_of c.args.book.now in
    let count = volumes_counted c.args.book.now.bytes in
    slots_told b (parts_of c.open_wanted.new.book) c.args.v.0 with_migration c.view_of-view.result c.view_of-view.ensures (omega arith)
    (was_opened c.wants_pass-wanted.result (with_volume c.args.v.0 with_migration b) b (parts_of c.open_wanted.new.book) c.in_ok-open_wanted.ensures.block c.if-wanted.true)
    (slots_stay (volume_at c.args.v.0 b) (maps_counted c.args.book.now.bytes c.args.v.0 c.requires.volume))

pub returns-then-wanted-clause-block : goal.returns-then-wanted-clause-block
returns-then-wanted-clause-block c =
    let b : Block = parts_of c.args.book.now in
    let v : Volume = volume_at c.args.v.0 b in
    let words : HasWords b v c.view_of-view.result = words_from b v c.view_of-view.result c.view_of-view.ensures in
    let finished : is_unfinished v ≡ false = sym words.unfinished ∙ sym c.unfinished.ensures ∙ c.if-unfinished.false in
    rebuild_started b (parts_of c.open_wanted.new.book) (parts_of c.set_open_pass-then-wanted.new.book) c.args.v.0 (c.pass_start-unit.result / 128) (is_told c.args.facts.now.broken.items c.args.v.0) finished
    (rebuild_wanted (is_unfinished v) (has_to_rebuild b v) (sym (c.wants_pass-wanted.ensures ∙ words.wants) ∙ c.if-wanted.true) finished)
    (ap (λ (n : ℕ). n / 128) (c.pass_start-unit.ensures ∙ words.start))
    (was_opened c.wants_pass-wanted.result (with_volume c.args.v.0 with_migration b) b (parts_of c.open_wanted.new.book) c.in_ok-open_wanted.ensures.block c.if-wanted.true)
    (subst (λ (t : Bool). parts_of c.set_open_pass-then-wanted.new.book ≡ edited (parts_of c.open_wanted.new.book) c.args.v.0 t (volume_with_pass 1 (c.pass_start-unit.result / 128))) c.is_broken-broken.ensures c.set_open_pass-then-wanted.ensures.block)

pub returns-then-is_some-clause-block : goal.returns-then-is_some-clause-block
returns-then-is_some-clause-block c =
    let b : Block = parts_of c.args.book.now in
    let v : Volume = volume_at c.args.v.0 b in
    let words : HasWords b v c.view_of-view.result = words_from b v c.view_of-view.result c.view_of-view.ensures in
    let same : parts_of c.open_wanted.new.book ≡ b = was_left c.wants_pass-wanted.result (with_volume c.args.v.0 with_migration b) b (parts_of c.open_wanted.new.book) c.in_ok-open_wanted.ensures.block c.if-wanted.false in
    closed_started b (parts_of c.close_pass.new.book) c.args.v.0 (is_told c.args.facts.now.broken.items c.args.v.0) (sym words.unfinished ∙ sym c.unfinished.ensures ∙ c.if-unfinished.false)
    (rebuild_not (is_unfinished v) (has_to_rebuild b v) (sym (c.wants_pass-wanted.ensures ∙ words.wants) ∙ c.if-wanted.false))
    (pass_open b v c.view_of-view.result (told_of b v c.view_of-view.result c.view_of-view.ensures) (sym c.is_some.ensures ∙ c.if-is_some.true))
    (subst (λ (x : Block). parts_of c.close_pass.new.book ≡ edited x c.args.v.0 (is_told c.args.facts.now.broken.items c.args.v.0) volume_without_migration) same
    (subst (λ (t : Bool). parts_of c.close_pass.new.book ≡ edited (parts_of c.open_wanted.new.book) c.args.v.0 t volume_without_migration) c.is_broken-broken.ensures c.close_pass.ensures.block))

pub returns-clause-block : goal.returns-clause-block
returns-clause-block c =
    let b : Block = parts_of c.args.book.now in
    let v : Volume = volume_at c.args.v.0 b in
    let words : HasWords b v c.view_of-view.result = words_from b v c.view_of-view.result c.view_of-view.ensures in
    let same : parts_of c.open_wanted.new.book ≡ b = was_left c.wants_pass-wanted.result (with_volume c.args.v.0 with_migration b) b (parts_of c.open_wanted.new.book) c.in_ok-open_wanted.ensures.block c.if-wanted.false in
    idle_started b (parts_of c.set_states.new.book) c.args.v.0 (is_told c.args.facts.now.broken.items c.args.v.0) (sym words.unfinished ∙ sym c.unfinished.ensures ∙ c.if-unfinished.false)
    (rebuild_not (is_unfinished v) (has_to_rebuild b v) (sym (c.wants_pass-wanted.ensures ∙ words.wants) ∙ c.if-wanted.false))
    (pass_closed b v c.view_of-view.result (told_of b v c.view_of-view.result c.view_of-view.ensures) (sym c.is_some.ensures ∙ c.if-is_some.false))
    (subst (λ (x : Block). parts_of c.set_states.new.book ≡ with_volume c.args.v.0 (with_states x (is_told c.args.facts.now.broken.items c.args.v.0)) x) same
    (subst (λ (t : Bool). parts_of c.set_states.new.book ≡ with_volume c.args.v.0 (with_states (parts_of c.open_wanted.new.book) t) (parts_of c.open_wanted.new.book)) c.is_broken-broken.ensures c.set_states.ensures.block))

pub returns-clause-variant : goal.returns-clause-variant
returns-clause-variant c =
    let b : Block = parts_of c.args.book.now in
    let v : Volume = volume_at c.args.v.0 b in
    let wanted : wants_pass b v ≡ false = sym (c.wants_pass-wanted.ensures ∙ (words_from b v c.view_of-view.result c.view_of-view.ensures).wants) ∙ c.if-wanted.false in
    (λ ok. inl wanted, λ x. refl)
