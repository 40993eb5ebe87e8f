-- What edits take as given is of the block that they edit, and the settings of new containers are real.
use Rattle.std.proofs.Common.{◌≡◌, ℕ, ◌+◌, ◌≤◌, ◌<◌, true, List, [], ◌∷◌, ◌++◌, length, map, get_or, Option, Some, None, refl, sym, ◌∙◌, ap, arith}
use Rattle.std.specs.Prelude.{All}
use Rattle.std.proofs.lemmas.Bool.{ltb-true}
use Rattle.std.proofs.lemmas.List.{get_or-map, length-map}
use Rattle.std.proofs.lemmas.List.Elements.{All-append, All-get_or}
use Rattle.std.proofs.lemmas.List.FromFn.{length-map-range_with_len}
use Rattle.imsm_base.specs.Layout.{Block, serial_of}
use Rattle.imsm_edit.specs.Meanings.{AreFacts}
use Rattle.array_model.specs.Blocks.{Laid}
use Rattle.array_model.specs.Start.{Start}
use Rattle.block_meaning.specs.Reading.{parts_of}
use Rattle.block_meaning.proofs.Words.{reads_blocks}
use Rattle.new_container.specs.declared.container.NewContainer.{NewContainer}
use Rattle.new_container.specs.declared.disk.NewDisk.{NewDisk}
use Rattle.new_container.specs.declared.volume.NewVolume.{NewVolume}
use Rattle.new_container.specs.Created.{IsDisk, second_count}
use Rattle.array_machine.specs.Setting.{Facts}
use Rattle.array_edits.specs.RealEdits.{facts_in}
use Rattle.array_edits.specs.Formed.{is_formed, IsEditable}
use Rattle.array_edits.specs.RealSettings.{IsReal}
use Rattle.array_edits.specs.Examples.{setting_over}
use Rattle.array_edits.proofs.Sound.{IsSound, formed_good}
use Rattle.array_edits.proofs.Spread.{told_by}

-- FACTS

facts_of_parts : (start : Start) (f : Facts) (b : Block) → IsSound start b → AreFacts b (facts_in start f b)
facts_of_parts start f b s = record {
  started = length-map-range_with_len start.is_started 0 (length b.volumes);
  broken = length-map-range_with_len f.is_broken 0 (length b.volumes);
  working = length-map b.disks (λ d. f.works (serial_of d));
  supported = λ k below told. (s.served k (sym (told_by start.is_started (length b.volumes) k below) ∙ told)).supported;
}

pub facts_are : (start : Start) (f : Facts) (m : Laid) → IsEditable start → is_formed start m ≡ true → AreFacts (parts_of m) (facts_in start f (parts_of m))
facts_are start f m can formed = facts_of_parts start f (parts_of m) (formed_good start m can formed).sound

-- SETTINGS

few_volumes : (second : Option NewVolume) → 1 + second_count second ≤ 2
few_volumes None = omega arith
few_volumes (Some v) = omega arith

serial_long : (disks : List NewDisk) (d : ℕ) → All IsDisk disks → d < length (map (λ (x : NewDisk). x.serial.0) disks) → length (get_or (map (λ (x : NewDisk). x.serial.0) disks) d []) ≡ 16
serial_long [] d typed below = absurd (omega arith)
serial_long (x ∷ xs) d typed below =
    let inside : d < length (x ∷ xs) = omega (arith, length-map (x ∷ xs) (λ (y : NewDisk). y.serial.0)) in
    ap (λ (y : List ℕ). length y) (get_or-map (λ (y : NewDisk). y.serial.0) (x ∷ xs) d x [] inside) ∙ (All-get_or IsDisk (x ∷ xs) d x inside typed).serial

pub setting_is_real : (made : NewContainer) (disks others : List NewDisk) → All IsDisk disks → All IsDisk others → IsReal (setting_over made disks others)
setting_is_real made disks others typed rest = record {
  reads = reads_blocks;
  edits = λ f m e. refl;
  can = record {
    few = λ v started. let below : v < 1 + second_count made.second = ltb-true _ _ started in omega (arith, few_volumes made.second);
    serials = λ d below. serial_long (disks ++ others) d (All-append IsDisk disks others typed rest) (omega (arith, length-map (disks ++ others) (λ (x : NewDisk). x.serial.0)));
  };
}
