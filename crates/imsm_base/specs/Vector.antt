-- A whole metadata block, byte by byte: a container of two disks of 4,096 sectors, A and B, with one volume of two
-- copies, of 1,024 sectors in strips of 128, as it is when it has just been made.
-- Source: the structures of super-intel.c, and this project's own choice of values.
use Rattle.std.specs.Prelude.{ℕ, List, [], ◌∷◌, slice_set}

abbrev pub mirror_bytes : List ℕ
mirror_bytes =
    -- signature, "Intel Raid ISM Cfg Sig. "
    73 ∷ 110 ∷ 116 ∷ 101 ∷ 108 ∷ 32 ∷ 82 ∷ 97 ∷ 105 ∷ 100 ∷ 32 ∷ 73 ∷ 83 ∷ 77 ∷ 32 ∷ 67 ∷ 102 ∷ 103 ∷ 32 ∷ 83 ∷
    105 ∷ 103 ∷ 46 ∷ 32 ∷
    -- version, "1.3.00"
    49 ∷ 46 ∷ 51 ∷ 46 ∷ 48 ∷ 48 ∷ 0 ∷ 0 ∷
    -- check_sum
    11 ∷ 81 ∷ 112 ∷ 71 ∷
    -- mpb_size
    224 ∷ 1 ∷ 0 ∷ 0 ∷
    -- family_num
    89 ∷ 112 ∷ 37 ∷ 109 ∷
    -- generation_num
    1 ∷ 0 ∷ 0 ∷ 0 ∷
    -- error_log_size, attributes
    0 ∷ 0 ∷ 0 ∷ 0 ∷ 0 ∷ 0 ∷ 0 ∷ 0 ∷
    -- num_disks, num_raid_devs
    2 ∷ 1 ∷
    -- carried
    0 ∷ 0 ∷ 0 ∷ 0 ∷ 0 ∷ 0 ∷
    -- orig_family_num
    89 ∷ 112 ∷ 37 ∷ 109 ∷
    -- carried, bbm_log_size
    0 ∷ 0 ∷ 0 ∷ 0 ∷ 0 ∷ 0 ∷ 0 ∷ 0 ∷
    -- carried
    0 ∷ 0 ∷ 0 ∷ 0 ∷ 0 ∷ 0 ∷ 0 ∷ 0 ∷ 0 ∷ 0 ∷ 0 ∷ 0 ∷ 0 ∷ 0 ∷ 0 ∷ 0 ∷ 0 ∷ 0 ∷ 0 ∷ 0 ∷
    0 ∷ 0 ∷ 0 ∷ 0 ∷ 0 ∷ 0 ∷ 0 ∷ 0 ∷ 0 ∷ 0 ∷ 0 ∷ 0 ∷ 0 ∷ 0 ∷ 0 ∷ 0 ∷ 0 ∷ 0 ∷ 0 ∷ 0 ∷
    0 ∷ 0 ∷ 0 ∷ 0 ∷ 0 ∷ 0 ∷ 0 ∷ 0 ∷ 0 ∷ 0 ∷ 0 ∷ 0 ∷ 0 ∷ 0 ∷ 0 ∷ 0 ∷ 0 ∷ 0 ∷ 0 ∷ 0 ∷
    0 ∷ 0 ∷ 0 ∷ 0 ∷ 0 ∷ 0 ∷ 0 ∷ 0 ∷ 0 ∷ 0 ∷ 0 ∷ 0 ∷ 0 ∷ 0 ∷ 0 ∷ 0 ∷ 0 ∷ 0 ∷ 0 ∷ 0 ∷
    0 ∷ 0 ∷ 0 ∷ 0 ∷ 0 ∷ 0 ∷ 0 ∷ 0 ∷ 0 ∷ 0 ∷ 0 ∷ 0 ∷ 0 ∷ 0 ∷ 0 ∷ 0 ∷ 0 ∷ 0 ∷ 0 ∷ 0 ∷
    0 ∷ 0 ∷ 0 ∷ 0 ∷ 0 ∷ 0 ∷ 0 ∷ 0 ∷ 0 ∷ 0 ∷ 0 ∷ 0 ∷ 0 ∷ 0 ∷ 0 ∷ 0 ∷ 0 ∷ 0 ∷ 0 ∷ 0 ∷
    0 ∷ 0 ∷ 0 ∷ 0 ∷ 0 ∷ 0 ∷ 0 ∷ 0 ∷ 0 ∷ 0 ∷ 0 ∷ 0 ∷ 0 ∷ 0 ∷ 0 ∷ 0 ∷ 0 ∷ 0 ∷ 0 ∷ 0 ∷
    -- serial of disk A
    65 ∷ 0 ∷ 0 ∷ 0 ∷ 0 ∷ 0 ∷ 0 ∷ 0 ∷ 0 ∷ 0 ∷ 0 ∷ 0 ∷ 0 ∷ 0 ∷ 0 ∷ 0 ∷
    -- total_blocks_lo
    0 ∷ 16 ∷ 0 ∷ 0 ∷
    -- scsi_id
    0 ∷ 0 ∷ 0 ∷ 0 ∷
    -- status, configured
    2 ∷ 0 ∷ 0 ∷ 0 ∷
    -- owner_cfg_num, total_blocks_hi, filler
    0 ∷ 0 ∷ 0 ∷ 0 ∷ 0 ∷ 0 ∷ 0 ∷ 0 ∷ 0 ∷ 0 ∷ 0 ∷ 0 ∷ 0 ∷ 0 ∷ 0 ∷ 0 ∷ 0 ∷ 0 ∷ 0 ∷ 0 ∷
    -- serial of disk B
    66 ∷ 0 ∷ 0 ∷ 0 ∷ 0 ∷ 0 ∷ 0 ∷ 0 ∷ 0 ∷ 0 ∷ 0 ∷ 0 ∷ 0 ∷ 0 ∷ 0 ∷ 0 ∷
    -- total_blocks_lo
    0 ∷ 16 ∷ 0 ∷ 0 ∷
    -- scsi_id
    0 ∷ 0 ∷ 0 ∷ 0 ∷
    -- status, configured
    2 ∷ 0 ∷ 0 ∷ 0 ∷
    -- owner_cfg_num, total_blocks_hi, filler
    0 ∷ 0 ∷ 0 ∷ 0 ∷ 0 ∷ 0 ∷ 0 ∷ 0 ∷ 0 ∷ 0 ∷ 0 ∷ 0 ∷ 0 ∷ 0 ∷ 0 ∷ 0 ∷ 0 ∷ 0 ∷ 0 ∷ 0 ∷
    -- name, "Volume0"
    86 ∷ 111 ∷ 108 ∷ 117 ∷ 109 ∷ 101 ∷ 48 ∷ 0 ∷ 0 ∷ 0 ∷ 0 ∷ 0 ∷ 0 ∷ 0 ∷ 0 ∷ 0 ∷
    -- size
    0 ∷ 4 ∷ 0 ∷ 0 ∷ 0 ∷ 0 ∷ 0 ∷ 0 ∷
    -- status, policy, carried
    0 ∷ 0 ∷ 0 ∷ 0 ∷ 0 ∷ 0 ∷ 0 ∷ 0 ∷ 0 ∷ 0 ∷ 0 ∷ 0 ∷ 0 ∷ 0 ∷ 0 ∷ 0 ∷ 0 ∷ 0 ∷ 0 ∷ 0 ∷
    0 ∷ 0 ∷ 0 ∷ 0 ∷ 0 ∷ 0 ∷ 0 ∷ 0 ∷ 0 ∷ 0 ∷ 0 ∷ 0 ∷ 0 ∷ 0 ∷ 0 ∷ 0 ∷ 0 ∷ 0 ∷ 0 ∷ 0 ∷
    0 ∷ 0 ∷ 0 ∷ 0 ∷ 0 ∷ 0 ∷ 0 ∷ 0 ∷ 0 ∷ 0 ∷ 0 ∷ 0 ∷ 0 ∷ 0 ∷ 0 ∷ 0 ∷
    -- state
    0 ∷ 0 ∷ 0 ∷ 0 ∷ 0 ∷ 0 ∷ 0 ∷ 0 ∷ 0 ∷ 0 ∷ 0 ∷ 0 ∷ 0 ∷ 0 ∷ 0 ∷ 0 ∷ 0 ∷ 0 ∷ 0 ∷ 0 ∷
    0 ∷ 0 ∷ 0 ∷ 0 ∷ 0 ∷ 0 ∷ 0 ∷ 0 ∷ 0 ∷ 0 ∷ 0 ∷ 0 ∷
    -- pba_of_lba0_lo
    0 ∷ 0 ∷ 0 ∷ 0 ∷
    -- blocks_per_member_lo
    0 ∷ 4 ∷ 0 ∷ 0 ∷
    -- num_data_stripes_lo
    8 ∷ 0 ∷ 0 ∷ 0 ∷
    -- blocks_per_strip
    128 ∷ 0 ∷
    -- map_state, raid_level, num_members, num_domains, failed_disk_num, ddf
    0 ∷ 1 ∷ 2 ∷ 2 ∷ 255 ∷ 1 ∷
    -- high halves, filler
    0 ∷ 0 ∷ 0 ∷ 0 ∷ 0 ∷ 0 ∷ 0 ∷ 0 ∷ 0 ∷ 0 ∷ 0 ∷ 0 ∷ 0 ∷ 0 ∷ 0 ∷ 0 ∷ 0 ∷ 0 ∷ 0 ∷ 0 ∷
    0 ∷ 0 ∷ 0 ∷ 0 ∷ 0 ∷ 0 ∷ 0 ∷ 0 ∷
    -- the two entries
    0 ∷ 0 ∷ 0 ∷ 0 ∷ 1 ∷ 0 ∷ 0 ∷ 0 ∷
    []

-- the same with another low byte of num_data_stripes
abbrev pub torn_mirror_bytes : List ℕ
torn_mirror_bytes = slice_set mirror_bytes 432 9
