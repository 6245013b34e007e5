mod Made
mod Mapped
mod MergedParts
