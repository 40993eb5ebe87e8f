use Rattle.std.proofs.Common.{◌≡◌, ◌≤◌, ℕ, ◌+◌, List, length, drop, sym, ◌∙◌, ap, subst, arith}
use Rattle.imsm_base.specs.Layout.{Volume}
use Rattle.imsm_base.specs.Parts.{map_in, map_room}
use Rattle.imsm_base.proofs.At.{map_place}
use Rattle.imsm_codec.specs.Mpb.{block_of, volume_at}
use Rattle.imsm_codec.proofs.Places.{map_found, map_inside, last_map}
use Rattle.imsm_codec.proofs.mpb.MpbRef.map_bytes.Goals as goal

-- the second map stands behind the first
second : (m len : ℕ) (maps behind : List ℕ) → m ≡ 1 → len ≡ map_room (map_in maps) → maps ≡ behind → len ≡ map_place m behind
second m len maps behind one room at =
    room ∙ ap (λ (x : List ℕ). map_room (map_in x)) at ∙ sum (map_room (map_in behind)) ∙ ap (λ (k : ℕ). map_place k behind) (sym one)
  where
    sum : (n : ℕ) → n ≡ n + 0
    sum n = omega arith

pub returns-then-m-eq0-clause-room : goal.returns-then-m-eq0-clause-room
returns-then-m-eq0-clause-room c =
    let v : Volume = volume_at c.args.v.0 (block_of c.args.self.now) in
    let rest = c.volume_bytes.result.now in
    map_inside rest c.behind-maps.result.now v c.args.m 0 c.volume_bytes.ensures.volume c.behind-maps.ensures c.requires.map
    (ap (λ (k : ℕ). map_place k (drop 112 rest)) (sym c.if-m-eq0.true)) c.volume_bytes.ensures.room

pub returns-clause-map : goal.returns-clause-map
returns-clause-map c =
    let v : Volume = volume_at c.args.v.0 (block_of c.args.self.now) in
    let rest = c.volume_bytes.result.now in
    let one = last_map v c.args.m c.requires.map c.if-m-eq0.false in
    ap map_in c.behind.ensures
    ∙ map_found rest c.behind-maps.result.now v c.args.m c.map_len.result c.volume_bytes.ensures.volume c.behind-maps.ensures c.requires.map
    (second c.args.m c.map_len.result c.behind-maps.result.now (drop 112 rest) one c.map_len.ensures.room c.behind-maps.ensures)

pub returns-clause-room : goal.returns-clause-room
returns-clause-room c =
    let v : Volume = volume_at c.args.v.0 (block_of c.args.self.now) in
    let rest = c.volume_bytes.result.now in
    let one = last_map v c.args.m c.requires.map c.if-m-eq0.false in
    subst (λ (x : List ℕ). map_room (map_in x) ≤ length x) (sym c.behind.ensures)
    (map_inside rest c.behind-maps.result.now v c.args.m c.map_len.result c.volume_bytes.ensures.volume c.behind-maps.ensures c.requires.map
    (second c.args.m c.map_len.result c.behind-maps.result.now (drop 112 rest) one c.map_len.ensures.room c.behind-maps.ensures)
    c.volume_bytes.ensures.room)
