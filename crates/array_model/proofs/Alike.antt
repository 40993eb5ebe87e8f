-- Blocks that say alike.
use Rattle.std.proofs.Common.{refl, sym, ◌∙◌}
use Rattle.array_model.specs.Blocks.{Laid, Words, SaysAlike}

pub alike_self : (W : Words) (a : Laid) → SaysAlike W a a
alike_self W a = record {
  generation = refl;
  family = refl;
  volumes = refl;
  has_record = λ serial. refl;
  expects = λ serial. refl;
  is_supported = λ v. refl;
  is_dirty = λ v. refl;
  is_unfinished = λ v. refl;
  can_run = λ v. refl;
  pass = λ v. refl;
  unit = λ v. refl;
  pass_start = λ v. refl;
  shape = λ v. refl;
  slots = λ v. refl;
}

pub alike_back : (W : Words) (a b : Laid) → SaysAlike W a b → SaysAlike W b a
alike_back W a b h = record {
  generation = sym h.generation;
  family = sym h.family;
  volumes = sym h.volumes;
  has_record = λ serial. sym (h.has_record serial);
  expects = λ serial. sym (h.expects serial);
  is_supported = λ v. sym (h.is_supported v);
  is_dirty = λ v. sym (h.is_dirty v);
  is_unfinished = λ v. sym (h.is_unfinished v);
  can_run = λ v. sym (h.can_run v);
  pass = λ v. sym (h.pass v);
  unit = λ v. sym (h.unit v);
  pass_start = λ v. sym (h.pass_start v);
  shape = λ v. sym (h.shape v);
  slots = λ v. sym (h.slots v);
}

pub alike_through : (W : Words) (a b c : Laid) → SaysAlike W a b → SaysAlike W b c → SaysAlike W a c
alike_through W a b c h k = record {
  generation = h.generation ∙ k.generation;
  family = h.family ∙ k.family;
  volumes = h.volumes ∙ k.volumes;
  has_record = λ serial. h.has_record serial ∙ k.has_record serial;
  expects = λ serial. h.expects serial ∙ k.expects serial;
  is_supported = λ v. h.is_supported v ∙ k.is_supported v;
  is_dirty = λ v. h.is_dirty v ∙ k.is_dirty v;
  is_unfinished = λ v. h.is_unfinished v ∙ k.is_unfinished v;
  can_run = λ v. h.can_run v ∙ k.can_run v;
  pass = λ v. h.pass v ∙ k.pass v;
  unit = λ v. h.unit v ∙ k.unit v;
  pass_start = λ v. h.pass_start v ∙ k.pass_start v;
  shape = λ v. h.shape v ∙ k.shape v;
  slots = λ v. h.slots v ∙ k.slots v;
}
