-- The definition's fault that a view's fault is. Source: `volume_fault` of imsm_base.
use Rattle.imsm_base.specs.Volumes.{Fault}
use Rattle.imsm_base.specs.Volumes.Fault.{BadLevel, BadPolicy, BadMigration, BadIndex, BadGeometry, Overlaps}
use Rattle.imsm_view.specs.declared.fault.VolumeFault.{VolumeFault}
use Rattle.imsm_view.specs.declared.fault.VolumeFault.TheVariants.{Level, Policy, Migration, DiskIndex, Geometry, Overlap}

abbrev pub fault_of : VolumeFault → Fault
fault_of (Level byte members) = BadLevel byte members
fault_of (Policy byte) = BadPolicy byte
fault_of (Migration type) = BadMigration type
fault_of (DiskIndex slot) = BadIndex slot.0
fault_of Geometry = BadGeometry
fault_of (Overlap other) = Overlaps other.0
