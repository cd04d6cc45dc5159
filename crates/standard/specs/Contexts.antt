-- The context numbers of refusals: the specification numbers the strings of oamd.rs by first appearance (docs/CONTEXTS.md).
use Rattle.std.specs.Prelude.{ℕ}

abbrev pub version : ℕ
version = 1

abbrev pub extended-version : ℕ
extended-version = 2

abbrev pub object-count : ℕ
object-count = 3

abbrev pub extended-object-count : ℕ
extended-object-count = 4

abbrev pub alternate-object-data-flag : ℕ
alternate-object-data-flag = 5

abbrev pub element-count : ℕ
element-count = 6

abbrev pub extended-element-count : ℕ
extended-element-count = 7

abbrev pub element-id : ℕ
element-id = 8

abbrev pub element-size : ℕ
element-size = 9

abbrev pub element-position : ℕ
element-position = 10

abbrev pub element : ℕ
element = 11

abbrev pub alternate-object-data-id : ℕ
alternate-object-data-id = 12

abbrev pub alternate-object-data-type : ℕ
alternate-object-data-type = 13

abbrev pub discard-unknown-element-flag : ℕ
discard-unknown-element-flag = 14

abbrev pub duplicate-object-element : ℕ
duplicate-object-element = 15

abbrev pub element-padding : ℕ
element-padding = 16

abbrev pub payload-padding : ℕ
payload-padding = 17

abbrev pub missing-object-element : ℕ
missing-object-element = 18

abbrev pub dynamic-only-program-flag : ℕ
dynamic-only-program-flag = 19

abbrev pub LFE-present-flag : ℕ
LFE-present-flag = 20

abbrev pub content-description : ℕ
content-description = 21

abbrev pub bed-channel-distribution-flag : ℕ
bed-channel-distribution-flag = 22

abbrev pub multiple-bed-instances-flag : ℕ
multiple-bed-instances-flag = 23

abbrev pub bed-instance-count : ℕ
bed-instance-count = 24

abbrev pub LFE-only-bed-flag : ℕ
LFE-only-bed-flag = 25

abbrev pub standard-bed-assignment-flag : ℕ
standard-bed-assignment-flag = 26

abbrev pub standard-bed-assignment : ℕ
standard-bed-assignment = 27

abbrev pub nonstandard-bed-assignment : ℕ
nonstandard-bed-assignment = 28

abbrev pub intermediate-spatial-format-index : ℕ
intermediate-spatial-format-index = 29

abbrev pub dynamic-object-count : ℕ
dynamic-object-count = 30

abbrev pub extended-dynamic-object-count : ℕ
extended-dynamic-object-count = 31

abbrev pub reserved-data-size : ℕ
reserved-data-size = 32

abbrev pub program-assignment-reserved-data : ℕ
program-assignment-reserved-data = 33

abbrev pub program-assignment-object-count : ℕ
program-assignment-object-count = 34

abbrev pub sample-offset-code : ℕ
sample-offset-code = 35

abbrev pub sample-offset-index : ℕ
sample-offset-index = 36

abbrev pub sample-offset : ℕ
sample-offset = 37

abbrev pub update-block-count : ℕ
update-block-count = 38

abbrev pub block-offset-factor : ℕ
block-offset-factor = 39

abbrev pub ramp-duration-code : ℕ
ramp-duration-code = 40

abbrev pub indexed-ramp-duration-flag : ℕ
indexed-ramp-duration-flag = 41

abbrev pub ramp-duration-index : ℕ
ramp-duration-index = 42

abbrev pub ramp-duration : ℕ
ramp-duration = 43

abbrev pub update-start-sample : ℕ
update-start-sample = 44

abbrev pub reserved-data-not-present-flag : ℕ
reserved-data-not-present-flag = 45

abbrev pub object-element-reserved-data : ℕ
object-element-reserved-data = 46

abbrev pub object-not-active-flag : ℕ
object-not-active-flag = 47

abbrev pub basic-info-status : ℕ
basic-info-status = 48

abbrev pub render-info-status : ℕ
render-info-status = 49

abbrev pub additional-table-data-flag : ℕ
additional-table-data-flag = 50

abbrev pub additional-table-data-size : ℕ
additional-table-data-size = 51

abbrev pub additional-table-data : ℕ
additional-table-data = 52

abbrev pub mixed-basic-info-flags : ℕ
mixed-basic-info-flags = 53

abbrev pub object-gain-index : ℕ
object-gain-index = 54

abbrev pub object-gain : ℕ
object-gain = 55

abbrev pub default-object-priority-flag : ℕ
default-object-priority-flag = 56

abbrev pub object-priority : ℕ
object-priority = 57

abbrev pub mixed-render-info-flags : ℕ
mixed-render-info-flags = 58

abbrev pub differential-position-flag : ℕ
differential-position-flag = 59

abbrev pub differential-X : ℕ
differential-X = 60

abbrev pub differential-Y : ℕ
differential-Y = 61

abbrev pub differential-Z : ℕ
differential-Z = 62

abbrev pub position-X : ℕ
position-X = 63

abbrev pub position-Y : ℕ
position-Y = 64

abbrev pub position-Z-sign : ℕ
position-Z-sign = 65

abbrev pub position-Z : ℕ
position-Z = 66

abbrev pub object-distance-specified-flag : ℕ
object-distance-specified-flag = 67

abbrev pub object-at-infinity-flag : ℕ
object-at-infinity-flag = 68

abbrev pub distance-factor-index : ℕ
distance-factor-index = 69

abbrev pub zone-constraints-index : ℕ
zone-constraints-index = 70

abbrev pub elevation-enabled-flag : ℕ
elevation-enabled-flag = 71

abbrev pub object-size-index : ℕ
object-size-index = 72

abbrev pub object-size : ℕ
object-size = 73

abbrev pub object-width : ℕ
object-width = 74

abbrev pub object-depth : ℕ
object-depth = 75

abbrev pub object-height : ℕ
object-height = 76

abbrev pub screen-reference-flag : ℕ
screen-reference-flag = 77

abbrev pub screen-factor : ℕ
screen-factor = 78

abbrev pub depth-factor-index : ℕ
depth-factor-index = 79

abbrev pub object-snap-flag : ℕ
object-snap-flag = 80

abbrev pub trim-warp-mode : ℕ
trim-warp-mode = 81

abbrev pub trim-reserved-bits : ℕ
trim-reserved-bits = 82

abbrev pub global-trim-mode : ℕ
global-trim-mode = 83

abbrev pub custom-trim-configuration : ℕ
custom-trim-configuration = 84

abbrev pub per-object-trim-disable-flag : ℕ
per-object-trim-disable-flag = 85

abbrev pub per-object-trim-disable-flags : ℕ
per-object-trim-disable-flags = 86

-- how many there are
abbrev pub context_count : ℕ
context_count = 86
