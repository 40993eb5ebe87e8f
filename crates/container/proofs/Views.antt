-- A view some slots of which count out has the words of its volume where its members do.
use Rattle.std.proofs.Common.{◌≡◌, ℕ, ◌==◌, ◌&&◌, ◌||◌, not, Bool, List, [], ◌∷◌, map, Option, refl, sym, ◌∙◌, ap}
use Rattle.std.specs.List.{list_any}
use Rattle.arrayvec.specs.ArrayVec.{ArrayVec}
use Rattle.units.specs.Levels.{suffices}
use Rattle.units.specs.declared.volume.Level.{Level}
use Rattle.imsm_base.specs.Layout.{Block, Volume}
use Rattle.imsm_base.specs.Volumes.{Member, is_in_sync, is_unfinished, members, volume_level}
use Rattle.imsm_view.specs.declared.volume.Volume.{Volume as View}
use Rattle.imsm_view.specs.declared.volume.SlotView.{SlotView}
use Rattle.imsm_view.specs.Views.{IsVolume, slot_view}
use Rattle.imsm_view.specs.Questions as view
use Rattle.imsm_view.specs.Questions.{HasWords, is_slot_in_sync}
use Rattle.imsm_view.proofs.Words.{list_any-map}
use Rattle.container.specs.Views.{count_out, view_verdict}
use Rattle.container.specs.Volumes.{can_run, counted, counted_out, is_degraded, pass_from, verdict_by, verdict_with, wants_pass}

counted_views : (b : Block) (out : ℕ → Bool) (ms : List Member) → map (count_out out) (map (slot_view b) ms) ≡ map (slot_view b) (map (counted_out out) ms)
counted_views b out [] = refl
counted_views b out (m ∷ ms) = ap (λ (ss : List SlotView). slot_view b (counted_out out m) ∷ ss) (counted_views b out ms)

in_sync_views : (b : Block) (ms : List Member) → map is_slot_in_sync (map (slot_view b) ms) ≡ map (is_in_sync b) ms
in_sync_views b [] = refl
in_sync_views b (m ∷ ms) = ap (λ (ts : List Bool). is_in_sync b m ∷ ts) (in_sync_views b ms)

verdict_same : (r u d : Bool) (l : Option Level) (p : Option ℕ) (r2 u2 d2 : Bool) (l2 : Option Level) (p2 : Option ℕ) → r ≡ r2 → u ≡ u2 → d ≡ d2 → l ≡ l2 → p ≡ p2 → verdict_by r u d l p ≡ verdict_by r2 u2 d2 l2 p2
verdict_same r u d l p r2 u2 d2 l2 p2 er eu ed el ep = rw (er, eu, ed, el, ep) refl

pub counted_verdict : (b : Block) (v : Volume) (seen : View) (out : ℕ → Bool) (slots : ArrayVec SlotView) → IsVolume b v seen → HasWords b v seen → slots.items ≡ map (count_out out) seen.slots.items
    → view_verdict (record seen { slots = slots }) ≡ verdict_with b v (counted out v)
counted_verdict b v seen out slots is words are =
    let ms : List Member = counted out v in
    let items : slots.items ≡ map (slot_view b) ms = are ∙ ap (map (count_out out)) is.slots ∙ counted_views b out (members v) in
    let runs : view.can_run (record seen { slots = slots }) ≡ can_run b v ms =
    ap (λ (l : Option Level). suffices l (map is_slot_in_sync slots.items) && not (seen.state == 3)) (sym is.geometry.level)
    ∙ ap (λ (ss : List SlotView). suffices (volume_level v) (map is_slot_in_sync ss) && not (seen.state == 3)) items
    ∙ ap (λ (ts : List Bool). suffices (volume_level v) ts && not (seen.state == 3)) (in_sync_views b ms)
    ∙ ap (λ (s : ℕ). suffices (volume_level v) (map (is_in_sync b) ms) && not (s == 3)) is.state in
    let degraded : view.is_degraded (record seen { slots = slots }) ≡ is_degraded b ms =
    ap (list_any (λ s. not (is_slot_in_sync s))) items ∙ list_any-map (λ s. not (is_slot_in_sync s)) (slot_view b) ms in
    let wants : view.wants_pass (record seen { slots = slots }) ≡ wants_pass b v ms =
    ap (λ (t : Bool). t || list_any (λ s. s.out && s.expected) slots.items) words.unfinished
    ∙ ap (λ (t : Bool). is_unfinished v || t) (ap (list_any (λ s. s.out && s.expected)) items ∙ list_any-map (λ s. s.out && s.expected) (slot_view b) ms) in
    verdict_same _ _ _ _ _ _ _ _ _ _ runs words.unfinished degraded (sym is.geometry.level)
    (ap (λ (w : Bool). pass_from w (view.pass_start seen)) wants ∙ ap (pass_from (wants_pass b v ms)) words.start)
