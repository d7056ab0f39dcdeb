-- Rules, section 7: the P rows of requests. Proved in proofs/RequestRows.antt.
use Rattle.std.specs.Prelude.{List, [], ◌∷◌, ◌++◌, ℕ}
use Rattle.words.specs.Rows.{Row, Shown}
use Rattle.plan.specs.Sectors.{stop_of, entry_at}
use Rattle.state.specs.declared.State.{State}
use Rattle.state.specs.Jobs.{job_numbers}
use Rattle.state.specs.Fresh.{fresh_state}
use Rattle.services.specs.Answers.{longest}
use Rattle.sensor.specs.Requests.{request_of}

-- requests one after another, each into a buffer that every answer fits: the refusals, and the words behind each (rules 7.1 to 7.3 and 7.14)
unfoldable pub dialogue : State → List (List ℕ) → List ℕ
dialogue s [] = []
dialogue s (ws ∷ rest) =
    ((request_of s ws longest).reply.refusal ∷ (request_of s ws longest).written)
    ++ dialogue (request_of s ws longest).reply.state rest

-- SET_CONFIG with id 1, and GET_CONFIG (rules 4.6 and 4.7)
abbrev configured : ℕ → ℕ → List ℕ
configured speed step = 0x0201 ∷ 0x0010 ∷ 1 ∷ speed ∷ step ∷ []

abbrev config : List ℕ
config = 0x0202 ∷ 0x0010 ∷ []

-- SET_FUNCTION without flash (rule 4.8)
abbrev sector_to : ℕ → ℕ → ℕ → List ℕ
sector_to number function stop = 0x020A ∷ number ∷ function ∷ stop ∷ 0 ∷ []

-- TRANS_ROTATE and TRANS_MEASURE (rules 4.15 and 4.16)
abbrev rotated : ℕ → List ℕ
rotated speed = 0x0403 ∷ speed ∷ []

abbrev measured : List ℕ
measured = 0x0404 ∷ []

-- GET_ROTATE_DIRECTION, GET_REFLECTOR_CONFIG and SET_REFLECTOR_CONFIG (rules 4.19 to 4.21)
abbrev rotation : List ℕ
rotation = 0x1211 ∷ []

abbrev reflector : List ℕ
reflector = 0x1212 ∷ []

abbrev reflector_to : ℕ → ℕ → List ℕ
reflector_to threshold radius = 0x1202 ∷ threshold ∷ radius ∷ []

-- GET_MIXED_PROFILE (rule 4.23)
abbrev mixed_profile : ℕ → ℕ → ℕ → List ℕ
mixed_profile number high low = 0x1301 ∷ number ∷ high ∷ low ∷ []

-- the job behind some requests to a fresh sensor that was brought to MEASURE: its kind, how many are left, its mask's number, and 1 where the
-- mask is mixed (rule 7.17)
unfoldable pub state_after : State → List (List ℕ) → State
state_after s [] = s
state_after s (ws ∷ rest) = state_after (request_of s ws longest).reply.state rest

abbrev job_after : List (List ℕ) → List ℕ
job_after requests =
    let n = job_numbers (state_after fresh_state (rotated 0 ∷ measured ∷ requests)).job in
    n.kind ∷ n.left ∷ n.mask ∷ n.mixed ∷ []

-- requests with a wrong number of words, and some with the right one between them (rule 7.19)
abbrev wrong_counts : List (List ℕ)
wrong_counts =
    (0x0105 ∷ [])
    ∷ (0x0105 ∷ 0x00F3 ∷ 0 ∷ [])
    ∷ (0x0104 ∷ [])
    ∷ (0x020A ∷ 0 ∷ 1 ∷ 0x0B40 ∷ [])
    ∷ (0x020B ∷ [])
    ∷ (0x020B ∷ 0 ∷ 0 ∷ [])
    ∷ (0x020B ∷ 0 ∷ [])
    ∷ (0x0301 ∷ [])
    ∷ (0x0302 ∷ 0 ∷ [])
    ∷ rotated 0
    ∷ measured
    ∷ (0x0301 ∷ 0 ∷ 1 ∷ [])
    ∷ (0x0301 ∷ [])
    ∷ (0x0301 ∷ 5 ∷ 2 ∷ 0 ∷ [])
    ∷ (0x020A ∷ 0 ∷ [])
    ∷ (0x0302 ∷ 0 ∷ [])
    ∷ []

-- the port, sector 0 of both plans, and the job with its number sent, behind some requests to a fresh sensor (rule 7.19)
abbrev left_after : List (List ℕ) → List ℕ
left_after requests =
    let s = state_after fresh_state requests in
    let n = job_numbers s.job in
    let working = entry_at s.working 0 in
    let stored = entry_at s.stored 0 in
    s.port ∷ working.function ∷ stop_of working ∷ stored.function ∷ stop_of stored ∷ n.kind ∷ n.left ∷ n.mask ∷ n.mixed ∷ n.sent ∷ []

abbrev pub request_rows : List Row
request_rows =
    -- steps 7 and 72 are no steps and change nothing; 64 and 1 are steps (rule 7.1)
    record {
      value =
          dialogue fresh_state
          (configured 10 7 ∷ configured 10 72 ∷ config ∷ configured 10 64 ∷ configured 10 1 ∷ config ∷ []);
      figure =
          0 ∷ 0x8201 ∷ 0xFFFF
          ∷ 0 ∷ 0x8201 ∷ 0xFFFF
          ∷ 0 ∷ 0x8202 ∷ 0x0010 ∷ 1 ∷ 10 ∷ 8
          ∷ 0 ∷ 0x8201 ∷ 0x0010
          ∷ 0 ∷ 0x8201 ∷ 0x0010
          ∷ 0 ∷ 0x8202 ∷ 0x0010 ∷ 1 ∷ 10 ∷ 1 ∷ [];
    }
    -- stops of a revolution and more are turned back: 5760, 5761 and 65535 (rule 7.2)
    ∷ record {
      value = dialogue fresh_state (sector_to 0 3 5760 ∷ sector_to 0 3 5761 ∷ sector_to 0 3 65535 ∷ []);
      figure = 0 ∷ 0x820A ∷ 0 ∷ 3 ∷ 0 ∷ 0 ∷ 0x820A ∷ 0 ∷ 3 ∷ 1 ∷ 0 ∷ 0x820A ∷ 0 ∷ 3 ∷ 2175 ∷ [];
    }
    -- SET_SIGNAL with every bit set, from port 0: bits 2 and 3 stay (rule 7.3)
    ∷ record { value = dialogue fresh_state ((0x0105 ∷ 0xFFFF ∷ []) ∷ []); figure = 0 ∷ 0x8105 ∷ 0x00F3 ∷ [] }
    -- step 1 is too fine at any speed: the fresh plan at 5 Hz and at 20 Hz, error 1 (rule 7.1)
    ∷ record {
      value = dialogue fresh_state (configured 10 1 ∷ rotated 5 ∷ measured ∷ rotated 20 ∷ measured ∷ []);
      figure =
          0 ∷ 0x8201 ∷ 0x0010
          ∷ 0 ∷ 0x8403 ∷ 0 ∷ 2
          ∷ 0 ∷ 0x8404 ∷ 0 ∷ 2 ∷ 1
          ∷ 0 ∷ 0x8403 ∷ 0 ∷ 2
          ∷ 0 ∷ 0x8404 ∷ 0 ∷ 2 ∷ 1 ∷ [];
    }
    -- the plan of two sectors at step 4: error 1 at 11 Hz, none at 10 Hz (rule 7.7)
    ∷ record {
      value =
          dialogue fresh_state
          (configured 10 4 ∷ sector_to 0 1 1436 ∷ sector_to 1 3 3360 ∷ rotated 11 ∷ measured ∷ rotated 10 ∷ measured ∷ []);
      figure =
          0 ∷ 0x8201 ∷ 0x0010
          ∷ 0 ∷ 0x820A ∷ 0 ∷ 1 ∷ 1436
          ∷ 0 ∷ 0x820A ∷ 1 ∷ 3 ∷ 3360
          ∷ 0 ∷ 0x8403 ∷ 0 ∷ 2
          ∷ 0 ∷ 0x8404 ∷ 0 ∷ 2 ∷ 1
          ∷ 0 ∷ 0x8403 ∷ 0 ∷ 2
          ∷ 0 ∷ 0x8404 ∷ 0 ∷ 3 ∷ 0 ∷ [];
    }
    -- a whole revolution measured at step 2 and 5 Hz: error 2 (rule 7.7)
    ∷ record {
      value = dialogue fresh_state (configured 5 2 ∷ sector_to 0 3 5758 ∷ rotated 5 ∷ measured ∷ []);
      figure = 0 ∷ 0x8201 ∷ 0x0010 ∷ 0 ∷ 0x820A ∷ 0 ∷ 3 ∷ 5758 ∷ 0 ∷ 0x8403 ∷ 0 ∷ 2 ∷ 0 ∷ 0x8404 ∷ 0 ∷ 2 ∷ 2 ∷ [];
    }
    -- stop 5752, the fresh one, at step 10: error 4 (rule 7.8)
    ∷ record {
      value = dialogue fresh_state (configured 10 10 ∷ rotated 0 ∷ measured ∷ []);
      figure = 0 ∷ 0x8201 ∷ 0x0010 ∷ 0 ∷ 0x8403 ∷ 0 ∷ 2 ∷ 0 ∷ 0x8404 ∷ 0 ∷ 2 ∷ 4 ∷ [];
    }
    -- the program's dialogue (rule 7.12)
    ∷ record {
      value = dialogue fresh_state ((0x0102 ∷ []) ∷ measured ∷ rotated 0 ∷ measured ∷ [] ∷ []);
      figure = 0 ∷ 0x8102 ∷ 0 ∷ 1 ∷ 5 ∷ 0 ∷ 0x8403 ∷ 0 ∷ 2 ∷ 0 ∷ 0x8404 ∷ 0 ∷ 3 ∷ 0 ∷ 2 ∷ [];
    }
    -- the settings of the NAV300: set, saved, refused, set again and taken back by a reset (rule 7.14)
    ∷ record {
      value =
          dialogue fresh_state
          (rotation
          ∷ reflector
          ∷ reflector_to 80 40
          ∷ (0x1701 ∷ [])
          ∷ reflector_to 30 128
          ∷ reflector
          ∷ reflector_to 30 127
          ∷ reflector
          ∷ (0x1201 ∷ 0 ∷ [])
          ∷ (0x0401 ∷ 0 ∷ [])
          ∷ reflector
          ∷ rotation
          ∷ []);
      figure =
          0 ∷ 0x9211 ∷ 1
          ∷ 0 ∷ 0x9212 ∷ 50 ∷ 0
          ∷ 0 ∷ 0x9202 ∷ 80 ∷ 40
          ∷ 0 ∷ 0x9701 ∷ 0
          ∷ 0 ∷ 0x9202 ∷ 30 ∷ 0xFF01
          ∷ 0 ∷ 0x9212 ∷ 80 ∷ 40
          ∷ 0 ∷ 0x9202 ∷ 30 ∷ 127
          ∷ 0 ∷ 0x9212 ∷ 30 ∷ 127
          ∷ 0 ∷ 0x9201 ∷ 0
          ∷ 0 ∷ 0x8401 ∷ 0
          ∷ 0 ∷ 0x9212 ∷ 80 ∷ 40
          ∷ 0 ∷ 0x9211 ∷ 0 ∷ [];
    }
    -- jobs of both kinds: bit 17, bit 14, and bit 18 without bit 16 are no mask; a mixed job is left by the plain cancel, and a plain one by the
    -- mixed (rule 7.17)
    ∷ record {
      value =
          dialogue fresh_state
          (rotated 0
          ∷ measured
          ∷ mixed_profile 1 2 1
          ∷ mixed_profile 1 0 0x4001
          ∷ mixed_profile 0 4 0
          ∷ mixed_profile 3 1 0
          ∷ (0x0302 ∷ [])
          ∷ (0x1302 ∷ [])
          ∷ []);
      figure =
          0 ∷ 0x8403 ∷ 0 ∷ 2
          ∷ 0 ∷ 0x8404 ∷ 0 ∷ 3 ∷ 0
          ∷ 0 ∷ 0x9301 ∷ 2 ∷ 1 ∷ 0xFF01
          ∷ 0 ∷ 0x9301 ∷ 0 ∷ 0x4001 ∷ 0xFF01
          ∷ 0 ∷ 0x9301 ∷ 4 ∷ 0 ∷ 0xFF01
          ∷ 0
          ∷ 0 ∷ 0x8302 ∷ 0 ∷ 3
          ∷ 0 ∷ 0x9302 ∷ 0 ∷ [];
    }
    -- what stands behind each cancel: the kind of job, how many are left, and whether its mask is mixed (rule 7.17)
    ∷ record { value = job_after (mixed_profile 3 1 0 ∷ (0x0302 ∷ []) ∷ []); figure = 1 ∷ 3 ∷ 65536 ∷ 1 ∷ [] }
    ∷ record { value = job_after (mixed_profile 3 1 0 ∷ (0x1302 ∷ []) ∷ []); figure = 0 ∷ 0 ∷ 0 ∷ 0 ∷ [] }
    ∷ record { value = job_after ((0x0301 ∷ 3 ∷ 1 ∷ []) ∷ (0x1302 ∷ []) ∷ []); figure = 1 ∷ 3 ∷ 1 ∷ 0 ∷ [] }
    ∷ record { value = job_after ((0x0301 ∷ 3 ∷ 1 ∷ []) ∷ mixed_profile 0 2 0 ∷ []); figure = 1 ∷ 3 ∷ 1 ∷ 0 ∷ [] }
    ∷ record { value = job_after ((0x0301 ∷ 3 ∷ 1 ∷ []) ∷ mixed_profile 0 1 0 ∷ []); figure = 2 ∷ 0 ∷ 65536 ∷ 1 ∷ [] }
    -- wrong numbers of words: answered by four services in their modes, refused by 5 elsewhere, and by 4 of CANCEL_PROFILE (rule 7.19)
    ∷ record {
      value = dialogue fresh_state wrong_counts;
      figure =
          0 ∷ 0x8105 ∷ 0xFFFF
          ∷ 0 ∷ 0x8105 ∷ 0xFFFF
          ∷ 0 ∷ 0x8104 ∷ 0
          ∷ 0 ∷ 0x820A ∷ 0xFFFF ∷ 0xFFFF ∷ 0xFFFF
          ∷ 0 ∷ 0x820B ∷ 0xFFFF ∷ 0xFFFF ∷ 0xFFFF
          ∷ 0 ∷ 0x820B ∷ 0xFFFF ∷ 0xFFFF ∷ 0xFFFF
          ∷ 0 ∷ 0x820B ∷ 0 ∷ 3 ∷ 5752
          ∷ 5
          ∷ 4
          ∷ 0 ∷ 0x8403 ∷ 0 ∷ 2
          ∷ 0 ∷ 0x8404 ∷ 0 ∷ 3 ∷ 0
          ∷ 0
          ∷ 0 ∷ 0x8301
          ∷ 0 ∷ 0x8301
          ∷ 5
          ∷ 4 ∷ [];
    }
    -- port and plans are fresh ones behind them, and the job is the one that the right number of words started (rule 7.19)
    ∷ record { value = left_after wrong_counts; figure = 0 ∷ 3 ∷ 5752 ∷ 3 ∷ 5752 ∷ 2 ∷ 0 ∷ 1 ∷ 0 ∷ 0 ∷ [] }
    ∷ []

abbrev pub RequestFigures : Type 0
RequestFigures = Shown request_rows
