-- Rules, section 5: the bits of a mask by what they select, and in which part of a profile. The code has the
-- same names in `layout::bits`.
use Rattle.std.specs.Prelude.{List, [], ◌∷◌, ◌++◌, ℕ}

-- once, before the sectors (rule 5.5)
abbrev pub sent : ℕ
sent = 0

abbrev pub counter : ℕ
counter = 1

abbrev pub layer : ℕ
layer = 2

-- for every sector, before its points (rule 5.5)
abbrev pub number : ℕ
number = 3

abbrev pub step : ℕ
step = 4

abbrev pub points : ℕ
points = 5

abbrev pub tstart : ℕ
tstart = 6

abbrev pub startdir : ℕ
startdir = 7

-- for each point (rule 5.5)
abbrev pub distance : ℕ
distance = 8

abbrev pub direction : ℕ
direction = 9

abbrev pub echo : ℕ
echo = 10

-- for every sector, behind its points (rule 5.5)
abbrev pub tend : ℕ
tend = 11

abbrev pub enddir : ℕ
enddir = 12

-- once, at the end (rule 5.5)
abbrev pub senstat : ℕ
senstat = 13

-- the words that are there once, and one each (rule 5.8)
abbrev pub of_head : List ℕ
of_head = sent ∷ counter ∷ layer ∷ []

-- those of every sector, its points aside (rule 5.8)
abbrev pub of_sector : List ℕ
of_sector = number ∷ step ∷ points ∷ tstart ∷ startdir ∷ tend ∷ enddir ∷ []

-- those of each point (rule 5.8)
abbrev pub of_point : List ℕ
of_point = distance ∷ direction ∷ echo ∷ []

-- those that no mask of a job has (rule 2.7)
abbrev pub reserved : List ℕ
reserved = 14 ∷ 15 ∷ []

-- once, behind SENSTAT, in a mixed profile (rule 5.19)
abbrev pub reflectors : ℕ
reflectors = 16

-- for each reflector: x and y; distance and angle; time; mean echo; number of spots (rule 5.19)
abbrev pub cartesian : ℕ
cartesian = 18

abbrev pub polar : ℕ
polar = 19

abbrev pub time : ℕ
time = 20

abbrev pub mean_echo : ℕ
mean_echo = 21

abbrev pub spots : ℕ
spots = 22

-- those of a reflector that stand for four words, and those that stand for one (rule 5.20)
abbrev pub of_four : List ℕ
of_four = cartesian ∷ polar ∷ []

abbrev pub of_one : List ℕ
of_one = time ∷ mean_echo ∷ spots ∷ []

-- all of a reflector, which need the number of reflectors (rule 2.11)
abbrev pub of_reflector : List ℕ
of_reflector = of_four ++ of_one

-- those that no mixed mask has, beside the reserved ones of a plain mask (rule 2.11)
abbrev pub reserved_mixed : List ℕ
reserved_mixed = 17 ∷ 23 ∷ 24 ∷ 25 ∷ 26 ∷ 27 ∷ 28 ∷ 29 ∷ 30 ∷ 31 ∷ []
