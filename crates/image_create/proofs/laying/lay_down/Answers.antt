use Rattle.std.proofs.Common.{◌≡◌, ℕ, List, length, Option, Result, Ok, Err, ◌∙◌, ap, subst, arith}
use Rattle.std.specs.Prelude.{IfErr}
use Rattle.std.proofs.lemmas.Result.{on_ok_weaker}
use Rattle.units.specs.declared.disk.DiskNo.{DiskNo}
use Rattle.units.specs.declared.disk.Sector.{Sector}
use Rattle.device_log.specs.Log.{Call}
use Rattle.member_bank.specs.Told.{LogsAll}
use Rattle.mpb_store.specs.Sectors.{block_sectors}
use Rattle.image_create.specs.Calls.{block_calls, calls_on, create_calls, zero_calls}
use Rattle.image_create.specs.Stops.{StopsAt}
use Rattle.image_create.proofs.Law.{lays_down}
use Rattle.image_create.proofs.Making.{handed_on, logs_both, stops_before, stops_behind}
use Rattle.image_create.proofs.laying.lay_down.Goals as goal

-- the calls of the block by what the code holds
block_list : (sizes now : List ℕ) (bytes : List ℕ) (sectors : List Sector) (size : ℕ) → now ≡ sizes → sectors ≡ block_sectors bytes → size ≡ length bytes
    → calls_on (block_calls sectors size) now (length now) ≡ calls_on (block_calls (block_sectors bytes) (length bytes)) sizes (length sizes)
block_list sizes now bytes sectors size same is long =
    ap (λ (x : List ℕ). calls_on (block_calls sectors size) x (length x)) same
    ∙ ap (λ (x : List Sector). calls_on (block_calls x size) sizes (length sizes)) is
    ∙ ap (λ (x : ℕ). calls_on (block_calls (block_sectors bytes) x) sizes (length sizes)) long

created : {a b c : Option (List Call)} (sizes now : List ℕ) (rows : ℕ) (bytes : List ℕ) (sectors : List Sector) (size : ℕ) → now ≡ sizes → sectors ≡ block_sectors bytes → size ≡ length bytes
    → LogsAll a b (calls_on (zero_calls rows) sizes (length sizes)) → LogsAll b c (calls_on (block_calls sectors size) now (length now)) → LogsAll a c (create_calls sizes rows bytes)
created {a} {b} {c} sizes now rows bytes sectors size same is long zeros block =
    logs_both (calls_on (zero_calls rows) sizes (length sizes)) (calls_on (block_calls (block_sectors bytes) (length bytes)) sizes (length sizes)) zeros
    (subst (LogsAll b c) (block_list sizes now bytes sectors size same is long) block)

stopped : (a b c : Option (List Call)) (sizes now : List ℕ) (rows : ℕ) (bytes : List ℕ) (sectors : List Sector) (size : ℕ) (r : Result (Unit {0}) DiskNo) → now ≡ sizes → sectors ≡ block_sectors bytes → size ≡ length bytes
    → LogsAll a b (calls_on (zero_calls rows) sizes (length sizes)) → IfErr r (λ d. StopsAt b c (calls_on (block_calls sectors size) now (length now)) d.0)
    → IfErr r (λ d. StopsAt a c (create_calls sizes rows bytes) d.0)
stopped a b c sizes now rows bytes sectors size (Ok x) same is long zeros block = tt
stopped a b c sizes now rows bytes sectors size (Err d) same is long zeros block =
    stops_behind (calls_on (zero_calls rows) sizes (length sizes)) (calls_on (block_calls (block_sectors bytes) (length bytes)) sizes (length sizes)) zeros
    (subst (λ (x : List Call). StopsAt b c x d.0) (block_list sizes now bytes sectors size same is long) block)

pub returns-clause-ok : goal.returns-clause-ok
returns-clause-ok g c =
    on_ok_weaker c.write_blocks.result
    (created (g.B.Bank.sizes c.args.bank.now) (g.B.Bank.sizes c.zero_disks.new.bank) c.args.rows c.args.block.now.bytes c.block_sectors_of.result c.size_of.result
    c.zero_disks.ensures.kept.sized c.block_sectors_of.ensures.sectors c.size_of.ensures.size c.in_ok-zero_disks.ensures.ok)
    c.write_blocks.ensures.ok

pub returns-clause-err : goal.returns-clause-err
returns-clause-err g c =
    stopped (g.B.Bank.log c.args.bank.now) (g.B.Bank.log c.zero_disks.new.bank) (g.B.Bank.log c.write_blocks.new.bank) (g.B.Bank.sizes c.args.bank.now) (g.B.Bank.sizes c.zero_disks.new.bank) c.args.rows c.args.block.now.bytes c.block_sectors_of.result c.size_of.result c.write_blocks.result
    c.zero_disks.ensures.kept.sized c.block_sectors_of.ensures.sectors c.size_of.ensures.size c.in_ok-zero_disks.ensures.ok c.write_blocks.ensures.err

pub returns-clause-laid : goal.returns-clause-laid
returns-clause-laid g c =
    let sizes : List ℕ = g.B.Bank.sizes c.args.bank.now in
    on_ok_weaker c.write_blocks.result
    (λ block. lays_down sizes c.args.rows c.args.block.now.bytes (g.B.Bank.opening c.write_blocks.new.bank) (g.B.Bank.log c.args.bank.now) (g.B.Bank.log c.write_blocks.new.bank) c.requires
    (let most = c.size_of.ensures.most in let size = c.size_of.ensures.size in omega arith)
    (created sizes (g.B.Bank.sizes c.zero_disks.new.bank) c.args.rows c.args.block.now.bytes c.block_sectors_of.result c.size_of.result
    c.zero_disks.ensures.kept.sized c.block_sectors_of.ensures.sectors c.size_of.ensures.size c.in_ok-zero_disks.ensures.ok block))
    c.write_blocks.ensures.ok

pub returns-in_err-zero_disks-clause-err : goal.returns-in_err-zero_disks-clause-err
returns-in_err-zero_disks-clause-err g c =
    let sizes = g.B.Bank.sizes c.args.bank.now in
    let bytes = c.args.block.now.bytes in
    handed_on c.from_residual.result c.in_err-zero_disks.field-0.0 (λ d. StopsAt (g.B.Bank.log c.args.bank.now) (g.B.Bank.log c.zero_disks.new.bank) (create_calls sizes c.args.rows bytes) d.0) c.from_residual.ensures.1
    (stops_before (calls_on (zero_calls c.args.rows) sizes (length sizes)) (calls_on (block_calls (block_sectors bytes) (length bytes)) sizes (length sizes)) c.in_err-zero_disks.ensures.err)
