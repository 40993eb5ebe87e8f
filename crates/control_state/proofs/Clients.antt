-- A client in its place, and one that is put there.
use Rattle.std.proofs.Common.{◌≡◌, ℕ, ◌<◌, List, length, get_or, Option, Some, refl, sym, ◌∙◌, ap, arith}
use Rattle.std.specs.Prelude.{slice_set}
use Rattle.std.specs.Option.{option_map_or}
use Rattle.std.proofs.lemmas.List.{get_or-set_same, length-set, map-set, set-set}
use Rattle.std.proofs.lemmas.Option.{slice_get-get_or}
use Rattle.units.specs.declared.disk.Sector.{Sector}
use Rattle.stage_machine.specs.Jobs as jobs
use Rattle.stage_machine.specs.Jobs.{client_at}
use Rattle.control_state.specs.declared.plan.Plan.{Plan}
use Rattle.control_state.specs.declared.client.Client.{Client}
use Rattle.control_state.specs.declared.job.Work.{Work}
use Rattle.control_state.specs.Events.{blank_sector, read_of}
use Rattle.control_state.specs.Seen.{client_of, clients_of, job_of, left_from, number_of, numbers}
use Rattle.control_state.proofs.Submitted.{left_at}

pub read_at : (cs : List Client) (k : ℕ) (d : Client) → k < length cs → read_of cs k ≡ (get_or cs k d).read
read_at cs k d below = ap (λ (o : Option Client). option_map_or (λ (c : Client). c.read) o blank_sector) (slice_get-get_or cs k d below)

pub number_at : (cs : List Client) (k : ℕ) (d : Client) → k < length cs → number_of cs k ≡ (get_or cs k d).number
number_at cs k d below = ap (λ (o : Option Client). option_map_or (λ (c : Client). c.number) o 0) (slice_get-get_or cs k d below)

-- a client with other work keeps its sector
pub read_kept : (cs : List Client) (k : ℕ) (d : Client) (work : Option Work) → k < length cs → read_of (slice_set cs k (record (get_or cs k d) { work = work })) k ≡ read_of cs k
read_kept cs k d work below =
    let c : Client = record (get_or cs k d) { work = work } in
    read_at (slice_set cs k c) k d (omega (arith, below, length-set cs k c)) ∙ ap (λ (x : Client). x.read) (get_or-set_same cs k c d below) ∙ sym (read_at cs k d below)

-- a client is put in, and then changed there
pub set_twice : (cs : List Client) (k : ℕ) (c d : Client) (goes : Client → Client) → k < length cs
    → slice_set (slice_set cs k c) k (goes (get_or (slice_set cs k c) k d)) ≡ slice_set cs k (goes c)
set_twice cs k c d goes below =
    ap (λ (x : Client). slice_set (slice_set cs k c) k (goes x)) (get_or-set_same cs k c d below) ∙ set-set cs k c (goes c)

put_at : (p : Plan) (cs : List Client) (k : ℕ) (c : Client) (to : jobs.Client) → client_of p c ≡ to → clients_of p (slice_set cs k c) ≡ slice_set (clients_of p cs) k to
put_at p cs k c to is = map-set (λ (x : Client). client_of p x) cs k c ∙ ap (slice_set (clients_of p cs) k) is

abbrev client : List ℕ → jobs.Job → jobs.Client
client left job = record { left = left; job = job }

-- a client with other work
pub settled : (p : Plan) (cs : List Client) (k : ℕ) (d : Client) (work : Option Work) → k < length cs
    → clients_of p (slice_set cs k (record (get_or cs k d) { work = work }))
    ≡ slice_set (clients_of p cs) k (client (client_at (clients_of p cs) k).left (job_of (numbers p.members.items) (read_of cs k) work))
settled p cs k d work below =
    put_at p cs k (record (get_or cs k d) { work = work }) _
    (ap (λ (left : List ℕ). client left (job_of (numbers p.members.items) (get_or cs k d).read work)) (sym (left_at p cs k d below))
    ∙ ap (λ (read : Sector). client (client_at (clients_of p cs) k).left (job_of (numbers p.members.items) read work)) (sym (read_at cs k d below)))

-- one behind an operation, with other work
pub submitted_at : (p : Plan) (cs : List Client) (k : ℕ) (d : Client) (next : ℕ) (work : Option Work) → k < length cs
    → clients_of p (slice_set cs k (record (get_or cs k d) { next = next; work = work }))
    ≡ slice_set (clients_of p cs) k (client (left_from p.ops.items (number_of cs k) next) (job_of (numbers p.members.items) (read_of cs k) work))
submitted_at p cs k d next work below =
    put_at p cs k (record (get_or cs k d) { next = next; work = work }) _
    (ap (λ (n : ℕ). client (left_from p.ops.items n next) (job_of (numbers p.members.items) (get_or cs k d).read work)) (sym (number_at cs k d below))
    ∙ ap (λ (read : Sector). client (left_from p.ops.items (number_of cs k) next) (job_of (numbers p.members.items) read work)) (sym (read_at cs k d below)))

-- one that took a sector in
pub taken_in : (p : Plan) (cs : List Client) (k : ℕ) (d : Client) (read : Sector) (work : Option Work) → k < length cs
    → clients_of p (slice_set cs k (record (get_or cs k d) { work = work; read = read }))
    ≡ slice_set (clients_of p cs) k (client (client_at (clients_of p cs) k).left (job_of (numbers p.members.items) read work))
taken_in p cs k d read work below =
    put_at p cs k (record (get_or cs k d) { work = work; read = read }) _
    (ap (λ (left : List ℕ). client left (job_of (numbers p.members.items) read work)) (sym (left_at p cs k d below)))
