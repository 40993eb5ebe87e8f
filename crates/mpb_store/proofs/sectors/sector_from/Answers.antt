use Rattle.std.proofs.Common.{ℕ, ◌-◌, List, length, take, drop, refl, ap}
use Rattle.mpb_store.proofs.Filling.{sector-made}
use Rattle.mpb_store.proofs.sectors.sector_from.Goals as goal

pub returns : goal.returns
returns c =
    let bytes : List ℕ = c.args.bytes.now in
    let part = ap (λ (k : ℕ). take (length bytes - k) (drop k bytes)) c.min.ensures in
    sector-made c.min-len.result c.args.place c.copy_from_slice.new.self _ _ bytes c.copy_from_slice.ensures.after part refl c.min-len.ensures
